use Rattle.std.proofs.Common.{length}
use Rattle.rules.proofs.unmet_expectations.+sought_operand.Given as goal

abbrev pub decreases-sought_operand : goal.decreases-sought_operand
decreases-sought_operand g l = length l.expected.now
