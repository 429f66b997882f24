use Rattle.std.proofs.Common.{◌≡◌, ℕ, ◌<◌, ◌≤◌, get_or}
use Rattle.blocks.specs.Rows.{replaced}
use Rattle.blocks.proofs.replacing.replace_lanes.Given as goal

abbrev pub invariant-loop-lane : goal.invariant-loop-lane
invariant-loop-lane l = record {
  done : (k : ℕ) → k < l.lane → get_or l.numbers k 0 ≡ replaced l.number l.by (get_or l.initial.numbers k 0);
  rest : (k : ℕ) → l.lane ≤ k → get_or l.numbers k 0 ≡ get_or l.initial.numbers k 0;
}
