use Rattle.std.proofs.Common.{◌∙◌}
use Rattle.numbered_rules.proofs.Elements.{reference_dims}
use Rattle.numbered_rules.proofs.class_operands.dimensions.Goals as goal

pub returns : goal.returns
returns c = λ s t h. c.of.ensures.dims ∙ reference_dims s c.args.number t h
