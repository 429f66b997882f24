use Rattle.std.proofs.Common.{◌-◌, ◌≤◌}
use Rattle.blocks.specs.private.Blocks.{AreDecided}
use Rattle.blocks.proofs.block.first_lane.Given as goal

abbrev pub invariant-loop-lane : goal.invariant-loop-lane
invariant-loop-lane l = record { ahead : l.from ≤ l.lane; few : l.lane ≤ 16; decided : AreDecided l.numbers l.wanted l.from l.lane }

abbrev pub decreases-loop-lane : goal.decreases-loop-lane
decreases-loop-lane l = 16 - l.lane
