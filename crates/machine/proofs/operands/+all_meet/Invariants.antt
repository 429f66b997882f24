use Rattle.std.proofs.Common.{length}
use Rattle.machine.proofs.operands.+all_meet.Given as goal

abbrev pub decreases-all_meet : goal.decreases-all_meet
decreases-all_meet g l = length l.demands.now
