use Rattle.std.proofs.Common.{◌≡◌, ◌-◌, ◌≤◌, ◌<◌, ◌⊎◌, ℕ, true, get_or}
use Rattle.blocks.specs.Rows.{is_decided}
use Rattle.blocks.proofs.block.first_new_lane.Given as goal

abbrev pub invariant-loop-lane : goal.invariant-loop-lane
invariant-loop-lane l = record {
  few : l.lane ≤ 16;
  ahead : l.from ≤ l.lane;
  settled : (k : ℕ) → l.from ≤ k → k < l.lane → (is_decided (get_or l.numbers k 0) (get_or l.wanted k 0) ≡ true) ⊎ (get_or l.numbers k 0 ≡ get_or l.fitting k 0);
}

abbrev pub decreases-loop-lane : goal.decreases-loop-lane
decreases-loop-lane l = 16 - l.lane
