use Rattle.std.proofs.Common.{ℕ, ◌≡◌, ◌-◌, ◌≤◌, ◌<◌, get_or}
use Rattle.blocks.proofs.block.first_unequal_lane.Given as goal

abbrev pub invariant-loop-lane : goal.invariant-loop-lane
invariant-loop-lane l = record { ahead : l.from ≤ l.lane; few : l.lane ≤ 16; equal : (k : ℕ) → l.from ≤ k → k < l.lane → get_or l.numbers k 0 ≡ get_or l.others k 0 }

abbrev pub decreases-loop-lane : goal.decreases-loop-lane
decreases-loop-lane l = 16 - l.lane
