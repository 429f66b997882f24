-- Nodes in which a number is replaced by another, and what is remembered of them.
use Rattle.std.specs.Prelude.{◌≡◌, ℕ, ◌+◌, ◌*◌, ◌≤◌, ◌<◌, ◌⊎◌, List, length, slice_index, Option, Some, None}
use Rattle.std.specs.BTreeMap.{get}
use Rattle.std.specs.Ordering.{nat_cmp}
use Rattle.blocks.specs.Rows.{replaced}
use Rattle.blocks.specs.private.Trees.{node_at, level_of, number_at, IsForest}
use Rattle.blocks.specs.declared.node.Node.{Node}
use Rattle.blocks.specs.declared.replacing.Replacements.{Replacements}

-- a node and two numbers in one number
abbrev pub key_of : ℕ → ℕ → ℕ → ℕ
key_of id number by = id * 18446744073709551616 + number * 4294967296 + by

-- the node that is remembered for a node and two numbers
abbrev pub kept_at : Replacements → ℕ → ℕ → ℕ → Option ℕ
kept_at r id number by = get nat_cmp r.nodes (key_of id number by)

-- among the first n nodes, one holds what another does, with a number in place of another
pub record IsReplaced (ns : List Node) (n id number by now : ℕ) : Type 0 where
  pub first : id < n
  pub inside : now < n
  pub alike : level_of ns now ≡ level_of ns id
  pub numbers : (slot : ℕ) → number_at ns (level_of ns id) now slot
      ≡ replaced number by (number_at ns (level_of ns id) id slot)

-- so do all that are remembered
abbrev pub AreReplaced : List Node → ℕ → Replacements → Type 0
AreReplaced ns n r = (id number by now : ℕ) → number < 4294967296 → by < 4294967296
    → kept_at r id number by ≡ Some now → IsReplaced ns n id number by now

-- what is remembered is one outcome, or was remembered before
abbrev pub KeepsReplaced : Replacements → ℕ → ℕ → ℕ → ℕ → Replacements → Type 0
KeepsReplaced old id number by now new = (i n b x : ℕ) → n < 4294967296 → b < 4294967296
    → kept_at new i n b ≡ Some x
    → ((i ≡ id) × (n ≡ number) × (b ≡ by) × (x ≡ now)) ⊎ (kept_at old i n b ≡ Some x)

-- nodes were put after others
pub record Grows (ns ms : List Node) : Type 0 where
  pub forest : IsForest ms
  pub more : length ns ≤ length ms
  pub old : (i : ℕ) → i < length ns → node_at ms i ≡ node_at ns i
  pub news : (i : ℕ) → length ns ≤ i → i < length ms → (node_at ms i).seen ≡ None

-- a node has these numbers, and is like another in all else: that one itself, or a node put after the others
pub record IsMade (ns ms : List Node) (id : ℕ) (numbers : List ℕ) (now : ℕ) : Type 0 where
  pub few : length ms < 4294967296
  pub more : length ns ≤ length ms
  pub old : (i : ℕ) → i < length ns → node_at ms i ≡ node_at ns i
  pub last : (i : ℕ) → length ns ≤ i → i < length ms → (i ≡ now) × ((node_at ms i).seen ≡ None)
  pub inside : now < length ms
  pub alike : level_of ms now ≡ level_of ns id
  pub wide : length (node_at ms now).numbers ≡ 16
  pub each : (k : ℕ) → k < 16 → slice_index (node_at ms now).numbers k ≡ slice_index numbers k
