use Rattle.std.proofs.Common.{length, ◌-◌, ◌≤◌}
use Rattle.frames.specs.Undecided.{AreDecided}
use Rattle.frames.proofs.slot_comparison.first_undecided.Given as goal

abbrev pub invariant-loop-at : goal.invariant-loop-at
invariant-loop-at l = record { ahead : l.from ≤ l.at; decided : AreDecided l.a l.b l.from l.at }

abbrev pub decreases-loop-at : goal.decreases-loop-at
decreases-loop-at l = length l.a - l.at

abbrev pub invariant-loop-at-2 : goal.invariant-loop-at-2
invariant-loop-at-2 l = record { ahead : l.from ≤ l.at; decided : AreDecided l.a l.b l.from l.at }

abbrev pub decreases-loop-at-2 : goal.decreases-loop-at-2
decreases-loop-at-2 l = length l.a - l.at
