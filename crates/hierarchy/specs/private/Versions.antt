-- Versions of an array of numbers, which share nodes: the value of a version at an index, and what a new version leaves
-- as it was. Words of the code's own steps.
use Rattle.std.specs.Prelude.{◌≡◌, ◌⊎◌, ◌==◌, ℕ, ◌+◌, ◌-◌, ◌*◌, ◌/◌, ◌%◌, ◌<◌, ◌≤◌, zero, suc, List, [], ◌∷◌, length, slice_get, slice_index_or, Some, if◌then◌else◌}
use Rattle.hierarchy.specs.declared.versions.Node.{Node}
use Rattle.hierarchy.specs.declared.versions.Put.{Put}
use Rattle.hierarchy.specs.declared.versions.Split.{Split}
use Rattle.hierarchy.specs.declared.versions.Versions.{Versions}

-- the node of a version
abbrev pub node_at : List Node → ℕ → Node
node_at nodes version = slice_index_or nodes version (record { value = 0; odd = 0; even = 0 })

-- the node below a node that an index above 0 leads to
abbrev pub node_below : Node → ℕ → ℕ
node_below node index = if index % 2 == 1 then node.odd else node.even

-- the value of the version of a node at an index, so many nodes further down at most
abbrev pub value_in : List Node → ℕ → ℕ → ℕ → ℕ
value_in nodes zero version index = (node_at nodes version).value
value_in nodes (suc n) version zero = (node_at nodes version).value
value_in nodes (suc n) version (suc index) =
    value_in nodes n (node_below (node_at nodes version) (suc index)) (index / 2)

-- the value of a version at an index, which leads down by fewer nodes than the index counts, or as many
abbrev pub value_at : Versions → ℕ → ℕ → ℕ
value_at versions version index = value_in versions.nodes.items index version index

-- the version is there
abbrev pub IsVersion : Versions → ℕ → Type 0
IsVersion versions version = version < length versions.nodes.items

-- the nodes below each node are there
pub record AreVersions (versions : Versions) : Type 0 where
  pub odd : (v : ℕ) → IsVersion versions v → IsVersion versions (node_at versions.nodes.items v).odd
  pub even : (v : ℕ) → IsVersion versions v → IsVersion versions (node_at versions.nodes.items v).even

-- the version that was made has the value at the index, and elsewhere the values of the version that it was made from;
-- all versions before stay
pub record Puts (old new : Versions) (from index value made : ℕ) : Type 0 where
  pub version : IsVersion new made
  pub here : value_at new made index ≡ value
  pub others : (j : ℕ) → (j ≡ index → ⊥) → value_at new made j ≡ value_at old from j
  pub kept : (v : ℕ) → IsVersion old v → (j : ℕ) → value_at new v j ≡ value_at old v j
  pub stays : (v : ℕ) → IsVersion old v → IsVersion new v
  pub good : AreVersions new

-- a version with this node at the top is there now, and the others stay
pub record IsAdded (old new : Versions) (node : Node) (made : ℕ) : Type 0 where
  pub version : IsVersion new made
  pub own : value_at new made 0 ≡ node.value
  pub further : (i : ℕ) → 0 < i → value_at new made i ≡ value_at old (node_below node i) ((i - 1) / 2)
  pub kept : (v : ℕ) → IsVersion old v → (j : ℕ) → value_at new v j ≡ value_at old v j
  pub stays : (v : ℕ) → IsVersion old v → IsVersion new v
  pub good : AreVersions new

-- all versions stay, with all values
pub record KeepVersions (old new : Versions) : Type 0 where
  pub good : AreVersions new
  pub stays : (v : ℕ) → IsVersion old v → IsVersion new v
  pub same : (v : ℕ) → IsVersion old v → (j : ℕ) → value_at new v j ≡ value_at old v j

-- a value is 0 where it does not hold, and another where it does
abbrev pub Tells : Type 0 → ℕ → Type 0
Tells P v = ((v ≡ 0) × (P → ⊥)) ⊎ ((v ≡ 0 → ⊥) × P)

-- ---- many values at once

-- the value at an index, in place of another, after these were put one after the other
abbrev pub put_in : List Put → ℕ → ℕ → ℕ
put_in [] j v = v
put_in (p ∷ ps) j v = put_in ps j (if p.index == j then p.value else v)

-- no index is above this one
abbrev pub Most : ℕ → List Put → Type 0
Most most puts = (i : ℕ) (p : Put) → slice_get puts i ≡ Some p → p.index ≤ most

-- the version that was made has the values that were put, and elsewhere those of the version that it was made from; all
-- versions before stay
pub record PutsAll (old new : Versions) (from : ℕ) (puts : List Put) (made : ℕ) : Type 0 where
  pub version : IsVersion new made
  pub values : (j : ℕ) → value_at new made j ≡ put_in puts j (value_at old from j)
  pub kept : (v : ℕ) → IsVersion old v → (j : ℕ) → value_at new v j ≡ value_at old v j
  pub stays : (v : ℕ) → IsVersion old v → IsVersion new v
  pub good : AreVersions new

-- all values of a version name versions
abbrev pub AreNamed : Versions → ℕ → Type 0
AreNamed versions version = (q : ℕ) → IsVersion versions (value_at versions version q)

-- the value at an index of the version that another one names at an index
abbrev pub nested_at : Versions → ℕ → ℕ → ℕ → ℕ
nested_at versions version outer index = value_at versions (value_at versions version outer) index

-- the version that was made names at an index one that has the values that were put too, and elsewhere what the version
-- names that it was made from
pub record PutsNested (old new : Versions) (from outer : ℕ) (puts : List Put) (made : ℕ) : Type 0 where
  pub version : IsVersion new made
  pub named : AreNamed new made
  pub here : (j : ℕ) → nested_at new made outer j ≡ put_in puts j (nested_at old from outer j)
  pub others : (q : ℕ) → (q ≡ outer → ⊥) → (j : ℕ) → nested_at new made q j ≡ nested_at old from q j
  pub keeps : KeepVersions old new

-- the values are those for the node at the top, which had a value, and for the nodes below it
pub record IsSplit (value : ℕ) (puts : List Put) (s : Split) : Type 0 where
  pub top : s.value ≡ put_in puts 0 value
  pub odd : (j v : ℕ) → put_in s.odd.items j v ≡ put_in puts (2 * j + 1) v
  pub even : (j v : ℕ) → put_in s.even.items j v ≡ put_in puts (2 * j + 2) v
  pub most_odd : (most : ℕ) → Most most puts → Most ((most - 1) / 2) s.odd.items
  pub most_even : (most : ℕ) → Most most puts → Most ((most - 1) / 2) s.even.items

-- one value more is among those for the node at the top, or for one of the nodes below it
pub record Takes (old new : Split) (p : Put) : Type 0 where
  pub top : new.value ≡ (if p.index == 0 then p.value else old.value)
  pub odd : (j v : ℕ) → put_in new.odd.items j v ≡ (if p.index == 2 * j + 1 then p.value else put_in old.odd.items j v)
  pub even : (j v : ℕ) → put_in new.even.items j v ≡ (if p.index == 2 * j + 2 then p.value else put_in old.even.items j v)
  pub most_odd : (most : ℕ) → p.index ≤ most → Most ((most - 1) / 2) old.odd.items
      → Most ((most - 1) / 2) new.odd.items
  pub most_even : (most : ℕ) → p.index ≤ most → Most ((most - 1) / 2) old.even.items
      → Most ((most - 1) / 2) new.even.items
