-- Rows of ancestors: how deep a class stands, which class stands so many steps above it, and what is kept of that (the
-- chain of JVMS 4.10.1.2).
use Rattle.std.specs.Prelude.{◌≡◌, ◌↔◌, ◌⊎◌, ℕ, ◌+◌, ◌-◌, ◌^◌, ◌<◌, ◌≤◌, List, Option, Some, None, length, slice_get, slice_index, count_ones}
use Rattle.names.specs.StandardNames.{object_name}
use Rattle.hierarchy.specs.World.{climb}
use Rattle.hierarchy.specs.Class.{ClassFact, world_of, IsPresent, IsAbsent, IsSubclass}
use Rattle.hierarchy.specs.Rules.{IsHierarchy}
use Rattle.hierarchy.specs.Ancestors.{IsAncestor}

-- so many steps up from the class stands Object
abbrev pub IsDepth : List ClassFact → List ℕ → ℕ → Type 0
IsDepth classes a n = climb (world_of classes) n a ≡ Some object_name

-- the place of the class so many steps above the one at a place; none where fewer classes stand above it
abbrev pub AncestorAnswer : List ClassFact → ℕ → ℕ → Option ℕ → Type 0
AncestorAnswer classes steps i None = (c : ClassFact) × (slice_get classes i ≡ Some c)
    × (climb (world_of classes) steps c.name ≡ None)
AncestorAnswer classes steps i (Some j) = IsAncestor classes steps i j

-- how many entries of rows are looked at to tell whether a is b or stands below it: one for each binary digit 1 of the
-- steps from a up to the depth of b
pub record IsLookedUp (classes : List ClassFact) (a b : List ℕ) (looks : ℕ) : Type 0 where
  pub deeper : (m n : ℕ) → IsDepth classes a m → IsDepth classes b n → n < m → looks ≡ count_ones (m - n)
  pub no_deeper : (m n : ℕ) → IsDepth classes a m → IsDepth classes b n → m ≤ n → looks ≡ 0
  pub absent : IsAbsent classes a ⊎ IsAbsent classes b → looks ≡ 0
  pub few : looks ≤ 16

-- of each class its depth, and where its row begins: the places of its ancestors at the distances 1, 2, 4 and so on, as
-- far as its depth reaches
pub record AreRows (classes : List ClassFact) (depths starts entries : List ℕ) : Type 0 where
  pub depth_each : length depths ≡ length classes
  pub start_each : length starts ≡ length classes
  pub depth : (i : ℕ) (c : ClassFact) → slice_get classes i ≡ Some c → IsDepth classes c.name (slice_index depths i)
  pub within : (i k : ℕ) → i < length classes → 2 ^ k ≤ slice_index depths i → slice_index starts i + k < length entries
  pub row : (i k : ℕ) → i < length classes → 2 ^ k ≤ slice_index depths i
      → IsAncestor classes (2 ^ k) i (slice_index entries (slice_index starts i + k))

-- in a hierarchy each class has one depth
abbrev pub HasOneDepth : Type 0
HasOneDepth = (classes : List ClassFact) (a : List ℕ) → IsHierarchy classes → IsPresent classes a → (n : ℕ)
    × IsDepth classes a n × ((m : ℕ) → IsDepth classes a m → m ≡ n)

-- a class is below another where that is its ancestor at the distance of their depths
abbrev pub IsBelowByDepth : Type 0
IsBelowByDepth =
    (classes : List ClassFact) (a b : List ℕ) (m n : ℕ) → IsHierarchy classes → IsDepth classes a m
    → IsDepth classes b n
    → IsSubclass classes a b ↔ ((n ≤ m) × (climb (world_of classes) (m - n) a ≡ Some b))
