use Rattle.std.proofs.Common.{length, ◌-◌}
use Rattle.names.specs.private.TypeEnds.{GoesOnUpTo}
use Rattle.names.proofs.name_run.run_end_of_few.Given as goal

abbrev pub invariant-loop-at : goal.invariant-loop-at
invariant-loop-at l = GoesOnUpTo l.bytes l.start l.at

abbrev pub decreases-loop-at : goal.decreases-loop-at
decreases-loop-at l = length l.bytes - l.at
