use Rattle.std.proofs.Common.{length, ◌-◌}
use Rattle.printing.specs.private.Runs.{StandInFront}
use Rattle.printing.proofs.runs.run_in_front.Given as goal

abbrev pub invariant-loop-at : goal.invariant-loop-at
invariant-loop-at g l = StandInFront g.E.Escapes.text l.bytes l.at

abbrev pub decreases-loop-at : goal.decreases-loop-at
decreases-loop-at g l = length l.bytes - l.at
