-- Copies of nodes, which keep what was said of them.
use Rattle.std.specs.Prelude.{◌≡◌, ℕ, ◌≤◌, ◌<◌, List, length}
use Rattle.blocks.specs.private.Trees.{node_at}
use Rattle.blocks.specs.declared.node.Node.{Node}

-- a node was put after the others that is like one of them
pub record IsAlike (ns ms : List Node) (node : ℕ) : Type 0 where
  pub like : ℕ
  pub inside : like < length ns
  pub same : node_at ms node ≡ node_at ns like

-- nodes were put after the others, each like one of them
pub record AreCopied (ns ms : List Node) : Type 0 where
  pub few : length ms < 4294967296
  pub more : length ns ≤ length ms
  pub old : (i : ℕ) → i < length ns → node_at ms i ≡ node_at ns i
  pub news : (i : ℕ) → length ns ≤ i → i < length ms → IsAlike ns ms i
