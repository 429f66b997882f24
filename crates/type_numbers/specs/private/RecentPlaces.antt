-- Places of classes as they are kept.
use Rattle.std.specs.Prelude.{◌≡◌, ℕ, List, Option, Some, IfSome, option_map, All}
use Rattle.std.specs.Borrow.{Bor}
use Rattle.std.specs.BTreeMap.{BTreeMap, get}
use Rattle.std.specs.Ordering.{nat_cmp}
use Rattle.hierarchy.specs.Class.{ClassFact}
use Rattle.hierarchy.specs.Places.{place_in}
use Rattle.type_numbers.specs.declared.recent_places.RecentPlaces.{RecentPlaces}

-- names by their places
abbrev pub KeptNames : Type 0
KeptNames = BTreeMap ℕ (Bor (List ℕ))

-- the name that is kept for a place
abbrev pub name_kept : KeptNames → ℕ → Option (List ℕ)
name_kept kept place = option_map (λ (n : Bor (List ℕ)). n.now) (get nat_cmp kept place)

-- the name has this place among the classes, and is kept for it
pub record IsPlace (classes : List ClassFact) (kept : KeptNames) (name : List ℕ) (place : ℕ) : Type 0 where
  pub there : place_in classes name ≡ Some place
  pub noted : name_kept kept place ≡ Some name

-- so has the name of a slot
abbrev pub IsSlot : List ClassFact → KeptNames → Option (Bor (List ℕ) × ℕ) → Type 0
IsSlot classes kept slot = IfSome slot (λ e. IsPlace classes kept e.0.now e.1)

-- and so have the names of all slots
abbrev pub ArePlaces : List ClassFact → KeptNames → RecentPlaces → Type 0
ArePlaces classes kept recent = All (IsSlot classes kept) recent.slots

-- the names that have numbers have their places among the classes, and so have the names that were asked for last,
-- which are some of these
pub record KeepPlaces (classes : List ClassFact) (numbered : KeptNames) (asked : RecentPlaces) : Type 0 where
  pub present : (place : ℕ) (name : List ℕ) → name_kept numbered place ≡ Some name
      → place_in classes name ≡ Some place
  pub recent : ArePlaces classes numbered asked
