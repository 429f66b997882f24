use Rattle.std.proofs.Common.{◌≡◌, ℕ, ◌<◌, ◌≤◌, length, get_or}
use Rattle.blocks.specs.private.Trees.{level_of}
use Rattle.blocks.specs.private.Compacting.{AreCopiesOf, GrowsTo, IsSameIn}
use Rattle.blocks.proofs.compacting.Copies.+copy.Given as goal

abbrev pub decreases-copy : goal.decreases-copy
decreases-copy l = level_of l.nodes.now l.id

abbrev pub invariant-loop-place : goal.invariant-loop-place
invariant-loop-place l = record {
  grown : GrowsTo l.initial.self.nodes.items l.self.nodes.items;
  copies : AreCopiesOf l.nodes l.self;
  done : (k : ℕ) → k < l.place → IsSameIn l.nodes l.self.nodes.items (get_or l.initial.numbers k 0) (get_or l.numbers k 0);
  wide : length l.numbers ≡ 16;
  rest : (k : ℕ) → l.place ≤ k → k < 16 → get_or l.numbers k 0 ≡ get_or l.initial.numbers k 0;
}
