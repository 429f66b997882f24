use Rattle.std.proofs.Common.{◌≤◌, ◌<◌, ℕ, length}
use Rattle.blocks.specs.Rows.{IsSettled}
use Rattle.blocks.proofs.arena.Arena.first_undecided_through.Given as goal

abbrev pub invariant-loop-slot : goal.invariant-loop-slot
invariant-loop-slot l = (k : ℕ) → l.from ≤ k → k < l.slot → k < length l.self.running → IsSettled l.self l.row k
