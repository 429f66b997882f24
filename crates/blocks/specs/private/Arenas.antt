-- The rows of a method as trees of nodes.
use Rattle.std.specs.Prelude.{◌≡◌, ℕ, zero, suc, ◌-◌, ◌≤◌, ◌<◌, ◌^◌, List, [], ◌++◌, length, map, replicate, slice_index, Option, Some, None}
use Rattle.std.specs.List.{range_with_len}
use Rattle.blocks.specs.Rows.{Rows}
use Rattle.blocks.specs.private.Trees.{node_at, level_of, number_at, width, IsTree}
use Rattle.blocks.specs.private.Replacing.{AreReplaced}
use Rattle.blocks.specs.declared.node.Node.{Node}
use Rattle.blocks.specs.declared.replacing.Replacements.{Replacements}

-- the first numbers below a node
abbrev pub row_of : List Node → ℕ → ℕ → List ℕ
row_of ns count id = map (number_at ns (level_of ns id) id) (range_with_len 0 count)

-- the numbers of a node that was said to fit another, slot by slot
abbrev pub pairs_of : List Node → ℕ → Option ℕ → List (ℕ × ℕ)
pairs_of ns node None = []
pairs_of ns node (Some fit) =
    map (λ slot. (number_at ns (level_of ns node) fit slot, number_at ns (level_of ns node) node slot))
    (range_with_len 0 (width (level_of ns node)))

-- the pairs of each of the first n nodes
abbrev pub known_pairs : List Node → ℕ → List (ℕ × ℕ)
known_pairs ns zero = []
known_pairs ns (suc n) = known_pairs ns n ++ pairs_of ns n (node_at ns n).seen

abbrev pub rows_of : List Node → ℕ → ℕ → ℕ → List ℕ → Rows
rows_of ns root kept count declared = record {
  running = row_of ns count root;
  declared = map (row_of ns count) declared;
  kept = row_of ns count kept;
  known = known_pairs ns (length ns);
}

pub record IsArena (ns : List Node) (own root kept count : ℕ) (declared : List ℕ) : Type 0 where
  pub tree : IsTree ns own
  pub base : 4 ≤ own
  pub inside : root < length ns
  pub few : count < 2 ^ 16
  pub reach : count ≤ width (level_of ns root)
  pub rows : (i : ℕ) → i < length declared → (slice_index declared i < own)
      × (level_of ns (slice_index declared i) ≡ level_of ns root)
  pub keeps : (kept < own) × (level_of ns kept ≡ level_of ns root)
  -- slots after the last hold Top
  pub rest : (slot : ℕ) → count ≤ slot → slot < width (level_of ns root) → number_at ns (level_of ns root) root slot ≡ 0
  pub rests : (i slot : ℕ) → i < length declared → count ≤ slot → slot < width (level_of ns root)
      → number_at ns (level_of ns root) (slice_index declared i) slot ≡ 0

-- and what is remembered of replacements is so of nodes that are shared
pub record IsWholeArena (ns : List Node) (own root kept count : ℕ) (declared : List ℕ) (r : Replacements) : Type 0 where
  pub arena : IsArena ns own root kept count declared
  pub replaced : AreReplaced ns own r

-- a node of a level that holds nothing but Top
abbrev pub empty_node : ℕ → Node
empty_node level = record { numbers = replicate 16 (level - 1); level = level; seen = None }

-- one of each level
pub record AreEmpty (ns : List Node) : Type 0 where
  pub long : length ns ≡ 4
  pub node : (i : ℕ) → i < 4 → node_at ns i ≡ empty_node i
