use Rattle.std.proofs.Common.{◌-◌}
use Rattle.names.specs.Forms.{AreJoinedBetween}
use Rattle.names.proofs.class_names.are_joined_by_sixteen.Given as goal

abbrev pub invariant-loop-at : goal.invariant-loop-at
invariant-loop-at l = AreJoinedBetween l.bytes 0 l.at

abbrev pub decreases-loop-at : goal.decreases-loop-at
decreases-loop-at l = l.last - l.at
