use Rattle.std.proofs.Common.{◌≡◌, ℕ, ◌<◌, ◌≤◌, length, get_or}
use Rattle.blocks.specs.private.Trees.{level_of}
use Rattle.blocks.specs.private.Replacing.{AreReplaced, Grows, IsReplaced}
use Rattle.blocks.proofs.replacing.Replacements.+replace.Given as goal

abbrev pub decreases-replace : goal.decreases-replace
decreases-replace l = level_of l.nodes.now.items l.id

abbrev pub invariant-loop-place : goal.invariant-loop-place
invariant-loop-place l = record {
  grown : Grows l.initial.nodes.items l.nodes.items;
  replaced : AreReplaced l.nodes.items (length l.nodes.items) l.self;
  done : (k : ℕ) → k < l.place → IsReplaced l.nodes.items (length l.nodes.items) (get_or l.initial.numbers k 0) l.number l.by (get_or l.numbers k 0);
  wide : length l.numbers ≡ 16;
  rest : (k : ℕ) → l.place ≤ k → k < 16 → get_or l.numbers k 0 ≡ get_or l.initial.numbers k 0;
}
