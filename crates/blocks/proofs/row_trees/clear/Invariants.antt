use Rattle.std.proofs.Common.{◌≡◌, ℕ, ◌<◌, length}
use Rattle.blocks.specs.private.Trees.{node_at}
use Rattle.blocks.specs.private.Arenas.{empty_node}
use Rattle.blocks.proofs.row_trees.clear.Given as goal

abbrev pub invariant-loop-level : goal.invariant-loop-level
invariant-loop-level l = record {
  long : length l.nodes.items ≡ 4;
  node : (i : ℕ) → i < l.level → node_at l.nodes.items i ≡ empty_node i;
}
