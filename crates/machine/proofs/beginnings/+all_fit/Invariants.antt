use Rattle.std.proofs.Common.{length}
use Rattle.machine.proofs.beginnings.+all_fit.Given as goal

abbrev pub decreases-all_fit : goal.decreases-all_fit
decreases-all_fit g l = length l.types.now
