-- Copies of nodes in another list, each made once.
use Rattle.std.specs.Prelude.{◌≡◌, ℕ, ◌≤◌, ◌<◌, List, [], ◌∷◌, ◌++◌, length, slice_index, slice_index_or, slice_set, Option, Some, None}
use Rattle.blocks.specs.declared.node.Node.{Node}
use Rattle.blocks.specs.declared.compacting.Copies.{Copies}
use Rattle.blocks.specs.private.Trees.{node_at, level_of, number_at, IsForest}

-- a node of the second list holds what one of the first does
pub record IsSameIn (ns ms : List Node) (id now : ℕ) : Type 0 where
  pub inside : now < length ms
  pub alike : level_of ms now ≡ level_of ns id
  pub numbers : (slot : ℕ) → number_at ms (level_of ns id) now slot ≡ number_at ns (level_of ns id) id slot

-- nodes of which nothing is known
pub record AreFresh (ns : List Node) : Type 0 where
  pub forest : IsForest ns
  pub base : 4 ≤ length ns
  pub none : (i : ℕ) → i < length ns → (node_at ns i).seen ≡ None

-- no copy was made of so many nodes
pub record AreCopies (count : ℕ) (c : Copies) : Type 0 where
  pub fresh : AreFresh c.nodes.items
  pub long : length c.known.items ≡ count
  pub none : (i now : ℕ) → i < count → slice_index_or c.known.items i None ≡ Some now → ⊥

-- each that was made holds what its node does
pub record AreCopiesOf (ns : List Node) (c : Copies) : Type 0 where
  pub fresh : AreFresh c.nodes.items
  pub long : length c.known.items ≡ length ns
  pub same : (i now : ℕ) → i < length ns → slice_index_or c.known.items i None ≡ Some now → IsSameIn ns c.nodes.items i now

-- each of these nodes has a copy
pub record AreSameIn (ns ms : List Node) (ids nows : List ℕ) : Type 0 where
  pub long : length nows ≡ length ids
  pub each : (i : ℕ) → i < length ids → IsSameIn ns ms (slice_index ids i) (slice_index nows i)

-- nodes were put after others
pub record GrowsTo (ns ms : List Node) : Type 0 where
  pub more : length ns ≤ length ms
  pub old : (i : ℕ) → i < length ns → node_at ms i ≡ node_at ns i

-- one was put after the others, as the copy of a node
pub record IsKept (old new : Copies) (id level : ℕ) (numbers : List ℕ) (now : ℕ) : Type 0 where
  pub last : now ≡ length old.nodes.items
  pub few : length new.nodes.items < 4294967296
  pub pushed : new.nodes.items ≡ old.nodes.items ++ record { numbers = numbers; level = level; seen = None } ∷ []
  pub known : new.known.items ≡ slice_set old.known.items id (Some now)
