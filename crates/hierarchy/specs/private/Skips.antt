-- Skips up the chain of superclasses (JVMS 4.10.1.2): where so many steps lead from each class of a list, or as many as
-- there are.
use Rattle.std.specs.Prelude.{◌≡◌, ℕ, ◌+◌, ◌*◌, ◌^◌, ◌<◌, ◌≤◌, List, ◌++◌, Some, length, map, take, slice_get, slice_index, slice_index_or}
use Rattle.names.specs.StandardNames.{object_name}
use Rattle.hierarchy.specs.declared.skips.Skip.{Skip}
use Rattle.hierarchy.specs.Class.{ClassFact}
use Rattle.hierarchy.specs.Rules.{IsNamedAt}
use Rattle.hierarchy.specs.Ancestors.{IsAncestor}

-- the skip leads so many steps up from the class at the place, or as many as there are to Object
pub record IsSkip (classes : List ClassFact) (steps i : ℕ) (skip : Skip) : Type 0 where
  pub to : IsAncestor classes skip.steps i skip.place
  pub most : skip.steps ≤ steps
  pub whole : skip.steps < steps → IsNamedAt classes skip.place object_name

-- one for each class
pub record AreSkips (classes : List ClassFact) (steps : ℕ) (skips : List Skip) : Type 0 where
  pub each : length skips ≡ length classes
  pub skip : (i : ℕ) (skip : Skip) → slice_get skips i ≡ Some skip → IsSkip classes steps i skip

-- the skip of the class at a place
abbrev pub skip_at : List Skip → ℕ → Skip
skip_at skips i = slice_index_or skips i (record { place = 0; steps = 0 })

-- a skip, and the next one from where it leads
abbrev pub onward : List Skip → Skip → Skip
onward skips skip = record {
  place = (skip_at skips skip.place).place;
  steps =
      skip.steps + (skip_at skips skip.place).steps;
}

-- each skip leads to a place of the list, from where the next one passes no more steps than a number of 16 bits counts
pub record LeadOn (skips : List Skip) : Type 0 where
  pub within : (i : ℕ) → i < length skips → (skip_at skips i).place < length skips
  pub fits : (i : ℕ) → i < length skips
      → (skip_at skips i).steps + (skip_at skips (skip_at skips i).place).steps < 2 ^ 16

-- tables of skips of 1, 2, 4 and so on steps, and skips to Object
pub record AreTables (classes : List ClassFact) (tables : List (List Skip)) (tops : List Skip) : Type 0 where
  pub table : (k : ℕ) (skips : List Skip) → slice_get tables k ≡ Some skips → AreSkips classes (2 ^ k) skips
  pub top_each : length tops ≡ length classes
  pub top : (i : ℕ) → i < length classes → IsAncestor classes (skip_at tops i).steps i (skip_at tops i).place
      × IsNamedAt classes (skip_at tops i).place object_name
  pub enough : (i : ℕ) → i < length classes → (skip_at tops i).steps < 2 ^ length tables

-- the row of a place: where the skips from there lead
abbrev pub row_of : List (List Skip) → ℕ → List ℕ
row_of tables place = map (λ (skips : List Skip). (skip_at skips place).place) tables

-- each table has a skip at the place
abbrev pub AreLong : List (List Skip) → ℕ → Type 0
AreLong tables place = (k : ℕ) (skips : List Skip) → slice_get tables k ≡ Some skips → place < length skips

-- after the entries stands the row of a place, as far as a depth reaches
pub record IsRowAdded (tables : List (List Skip)) (place depth : ℕ) (old new : List ℕ) : Type 0 where
  pub count : ℕ
  pub few : count ≤ 16
  pub all : count ≤ length tables
  pub far : depth < 2 ^ count
  pub least : (k : ℕ) → k < count → 2 ^ k ≤ depth
  pub added : new ≡ old ++ row_of (take count tables) place

-- the tables are as long as the list of depths, and as many as it asks for
pub record FitTogether (tables : List (List Skip)) (tops : List Skip) : Type 0 where
  pub few : length tops ≤ 65535
  pub each : (k : ℕ) (skips : List Skip) → slice_get tables k ≡ Some skips → length skips ≡ length tops
  pub enough : (i : ℕ) → i < length tops → (skip_at tops i).steps < 2 ^ length tables

-- the rows of the places below one
pub record HaveRows (tables : List (List Skip)) (tops : List Skip) (n : ℕ)
    (depths starts entries : List ℕ) : Type 0 where
  pub depth_each : length depths ≡ n
  pub start_each : length starts ≡ n
  pub most : length entries ≤ 16 * n
  pub depth : (i : ℕ) → i < n → slice_index depths i ≡ (skip_at tops i).steps
  pub within : (i k : ℕ) → i < n → 2 ^ k ≤ (skip_at tops i).steps → slice_index starts i + k < length entries
  pub row : (i k : ℕ) → i < n → 2 ^ k ≤ (skip_at tops i).steps
      → slice_index entries (slice_index starts i + k) ≡ slice_index (row_of tables i) k
