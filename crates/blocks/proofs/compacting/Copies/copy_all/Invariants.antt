use Rattle.std.proofs.Common.{◌≡◌, ℕ, ◌<◌, ◌≤◌, length, get_or}
use Rattle.blocks.specs.private.Compacting.{AreCopiesOf, GrowsTo, IsSameIn}
use Rattle.blocks.proofs.compacting.Copies.copy_all.Given as goal

abbrev pub invariant-loop-i : goal.invariant-loop-i
invariant-loop-i l = record {
  grown : GrowsTo l.initial.self.nodes.items l.self.nodes.items;
  copies : AreCopiesOf l.nodes l.self;
  long : length l.copies.items ≡ l.i;
  done : (k : ℕ) → k < l.i → IsSameIn l.nodes l.self.nodes.items (get_or l.ids k 0) (get_or l.copies.items k 0);
}
