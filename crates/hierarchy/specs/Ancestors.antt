-- Tables that say, for each class of a list, at which place the class so many steps above it stands (the chain of JVMS
-- 4.10.1.2, by places).
use Rattle.std.specs.Prelude.{◌≡◌, ◌≤◌, ℕ, min, List, Option, Some, None, position, slice_get}
use Rattle.std.specs.Option.{option_and_then}
use Rattle.std.specs.Str.{bytes_eq}
use Rattle.hierarchy.specs.World.{climb}
use Rattle.hierarchy.specs.Class.{ClassFact, world_of}

-- the place of the superclass of a class
abbrev pub superclass_place : List ClassFact → ClassFact → Option ℕ
superclass_place classes c = option_and_then (λ s. position (λ d. bytes_eq s d.name) classes) c.superclass

-- what a table says of a place
abbrev pub place_after : List (Option ℕ) → Option ℕ → Option ℕ
place_after places place = option_and_then (λ k. option_and_then (λ next. next) (slice_get places k)) place

-- the class at the second place stands so many steps above the one at the first
abbrev pub IsAncestor : List ClassFact → ℕ → ℕ → ℕ → Type 0
IsAncestor classes steps i j = (c : ClassFact) × (d : ClassFact) × (slice_get classes i ≡ Some c)
    × (slice_get classes j ≡ Some d) × (climb (world_of classes) steps c.name ≡ Some d.name)

-- the table has a place exactly where the class so many steps above is in the list
pub record AreAncestors (classes : List ClassFact) (steps : ℕ) (places : List (Option ℕ)) : Type 0 where
  pub sound : (i j : ℕ) → slice_get places i ≡ Some (Some j) → IsAncestor classes steps i j
  pub complete : (i j : ℕ) (c d : ClassFact) → slice_get classes i ≡ Some c → slice_get classes j ≡ Some d
      → climb (world_of classes) steps c.name ≡ Some d.name → slice_get places i ≡ Some (Some j)

-- no class has a place in the table
abbrev pub HasNone : List (Option ℕ) → Type 0
HasNone places = (i j : ℕ) → slice_get places i ≡ Some (Some j) → ⊥

-- the lowest of the places in the table
abbrev pub IsLowest : List (Option ℕ) → ℕ → Type 0
IsLowest places low = ((i : ℕ) × (slice_get places i ≡ Some (Some low)))
    × ((i j : ℕ) → slice_get places i ≡ Some (Some j) → low ≤ j)

-- the lower of two places, where there is one
abbrev pub lower : Option ℕ → Option ℕ → Option ℕ
lower None other = other
lower (Some i) None = Some i
lower (Some i) (Some j) = Some (min i j)
