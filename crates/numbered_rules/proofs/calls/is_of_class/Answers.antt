use Rattle.numbered_rules.proofs.Calling.{class_by_dims}
use Rattle.numbered_rules.proofs.calls.is_of_class.Goals as goal

pub returns : goal.returns
returns c = λ s row x h. class_by_dims x.class c.dimensions.result (c.dimensions.ensures s x.class h.class)
