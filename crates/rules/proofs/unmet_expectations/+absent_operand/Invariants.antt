use Rattle.std.proofs.Common.{length}
use Rattle.rules.proofs.unmet_expectations.+absent_operand.Given as goal

abbrev pub decreases-absent_operand : goal.decreases-absent_operand
decreases-absent_operand l = length l.expected.now
