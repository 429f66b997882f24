use Rattle.std.proofs.Common.{◌∙◌, ap, arith}
use Rattle.rules.specs.TypingRules.{sizes}
use Rattle.numbered_rules.proofs.Standing.{sizes_taken}
use Rattle.numbered_rules.proofs.class_operands.sizes.Goals as goal

pub returns : goal.returns
returns c = sizes_taken c.from.result 255 (omega arith) ∙ ap sizes c.from.ensures
