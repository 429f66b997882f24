use Rattle.names.specs.Forms.{AreBetween}
use Rattle.names.proofs.byte_lanes.are_all_singly.Given as goal

abbrev pub invariant-loop-b : goal.invariant-loop-b
invariant-loop-b g l = AreBetween g.K.ByLanes.is l.bytes 0 l.b-index
