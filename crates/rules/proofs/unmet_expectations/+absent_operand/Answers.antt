use Rattle.std.proofs.Common.{option_map}
use Rattle.rules.specs.Unmet.{found_in}
use Rattle.rules.proofs.TopDown.{absent_next}
use Rattle.rules.proofs.unmet_expectations.+absent_operand.Goals as goal

pub returns-in-len1-up-stack : goal.returns-in-len1-up-stack
returns-in-len1-up-stack t c = absent_next c.args.below c.args.expected.now c.args.stack.now (option_map found_in c.absent_operand.result) c.in-len1-up.len_at_least c.in-len1-up-stack.len_at_least c.absent_operand.ensures
