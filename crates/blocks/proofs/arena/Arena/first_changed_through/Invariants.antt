use Rattle.std.proofs.Common.{◌≡◌, ◌≤◌, ◌<◌, ℕ, length, get_or}
use Rattle.blocks.proofs.arena.Arena.first_changed_through.Given as goal

abbrev pub invariant-loop-slot : goal.invariant-loop-slot
invariant-loop-slot l = (k : ℕ) → l.from ≤ k → k < l.slot → k < length l.self.running → get_or l.self.running k 0 ≡ get_or l.self.kept k 0
