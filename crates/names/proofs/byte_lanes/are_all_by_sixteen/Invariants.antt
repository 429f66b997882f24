use Rattle.std.proofs.Common.{◌-◌}
use Rattle.names.specs.Forms.{AreBetween}
use Rattle.names.proofs.byte_lanes.are_all_by_sixteen.Given as goal

abbrev pub invariant-loop-at : goal.invariant-loop-at
invariant-loop-at g l = AreBetween g.K.ByLanes.is l.bytes 0 l.at

abbrev pub decreases-loop-at : goal.decreases-loop-at
decreases-loop-at g l = l.last - l.at
