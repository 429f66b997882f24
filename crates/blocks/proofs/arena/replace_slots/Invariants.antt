use Rattle.std.proofs.Common.{◌≡◌, ◌≤◌, ◌<◌, ℕ, length, get_or}
use Rattle.blocks.specs.Rows.{replaced}
use Rattle.blocks.proofs.arena.replace_slots.Given as goal

abbrev pub invariant-loop-slot : goal.invariant-loop-slot
invariant-loop-slot l = record {
  rest : l.rows ≡ record l.fn.rows { running = l.rows.running };
  size : length l.rows.running ≡ length l.fn.rows.running;
  done : (k : ℕ) → k < l.slot → get_or l.rows.running k 0 ≡ replaced l.pair.number l.pair.by (get_or l.fn.rows.running k 0);
  left : (k : ℕ) → l.slot ≤ k → get_or l.rows.running k 0 ≡ get_or l.fn.rows.running k 0;
  range : l.slot-end ≡ length l.fn.rows.running;
}
