use Rattle.hierarchy.proofs.Subclass.{one_answer}
use Rattle.hierarchy.proofs.laws.has_one_subclass_answer.Goals as goal

pub returns : goal.returns
returns c = one_answer
