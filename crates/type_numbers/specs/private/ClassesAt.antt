-- Classes by the tags and the last two bytes of their numbers.
use Rattle.std.specs.Prelude.{◌≡◌, ℕ, Bool, ◌||◌, nat_eq, nat_lt, if◌then◌else◌, List, Some, None}
use Rattle.hierarchy.specs.Places.{place_in}
use Rattle.type_numbers.specs.Numbers.{Numbering}
use Rattle.type_numbers.specs.Decoding.{name_at}

-- a tag of classes and of arrays of them: in the hierarchy, or absent
abbrev pub names_class : ℕ → Bool
names_class tag = nat_eq tag 7 || nat_lt 9 tag

-- the class of this name is the one of a tag and two bytes, which are its place if it is in the hierarchy
pub record IsClassAt (s : Numbering) (tag rest : ℕ) (name : List ℕ) : Type 0 where
  pub is : name_at s tag rest ≡ Some name
  pub place : place_in s.classes name ≡ (if nat_eq tag 7 then Some rest else None)
