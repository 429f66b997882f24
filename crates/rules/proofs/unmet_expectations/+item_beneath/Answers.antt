use Rattle.std.proofs.Common.{option_map}
use Rattle.frames.specs.VerificationType.{type_of}
use Rattle.rules.proofs.TopDown.{beneath_next}
use Rattle.rules.proofs.unmet_expectations.+item_beneath.Goals as goal

pub returns-in-len1-up-stack-2 : goal.returns-in-len1-up-stack-2
returns-in-len1-up-stack-2 t c = beneath_next c.args.expected.now c.args.stack.now (option_map type_of c.item_beneath.result) c.in-len1-up.len_at_least c.in-len1-up-stack-2.len_at_least c.item_beneath.ensures
