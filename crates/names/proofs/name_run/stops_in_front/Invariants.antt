use Rattle.std.proofs.Common.{length, ◌-◌, ◌≤◌}
use Rattle.names.specs.private.TypeEnds.{AreStopsUpTo}
use Rattle.names.proofs.name_run.stops_in_front.Given as goal

abbrev pub invariant-loop-at : goal.invariant-loop-at
invariant-loop-at l = record { behind : 1 ≤ l.at; stops : AreStopsUpTo l.bytes l.at l.stops }

abbrev pub decreases-loop-at : goal.decreases-loop-at
decreases-loop-at l = length l.bytes - l.at
