-- Verification types as numbers of four bytes: a tag, a number of dimensions, and two bytes that tell types of one tag
-- apart. The tags up to 9 are those of packed frames; from 10 on stand the classes that the hierarchy has not.
use Rattle.std.specs.Prelude.{◌≡◌, ℕ, ◌+◌, ◌*◌, ◌/◌, ◌%◌, ◌&&◌, nat_lt, if◌then◌else◌, List, Option, Some, None, position}
use Rattle.std.specs.BTreeMap.{is_at}
use Rattle.std.specs.Map.{lookup}
use Rattle.std.specs.Ordering.{nat_cmp}
use Rattle.std.specs.Str.{bytes_eq}
use Rattle.names.specs.Descriptors.{FieldDescriptor, primitive, class as class_type, array as array_type}
use Rattle.hierarchy.specs.Class.{ClassFact}
use Rattle.hierarchy.specs.Places.{place_in}
use Rattle.frames.specs.VerificationType.{VerificationType, top, int, float, long, double, null, class, array, uninit_this, uninit}
use Rattle.frames.specs.Packing.{element_code}

-- a tag, a number of dimensions and two bytes more, where there is room for them
abbrev pub numbered : ℕ → ℕ → ℕ → Option ℕ
numbered tag dims rest =
    if nat_lt dims 256 && nat_lt rest 65536 then Some (tag * 16777216 + dims * 65536 + rest)
    else None

-- how many absent classes have numbers: those of 245 tags, from 10 to 254
abbrev pub absent_limit : ℕ
absent_limit = 16056320

-- an absent class, or an array of so many dimensions of one, by its place among the absent names
abbrev pub absent_number : ℕ → ℕ → Option ℕ
absent_number dims k = if nat_lt k absent_limit then numbered (10 + k / 65536) dims (k % 65536) else None

-- by the place of the class in the hierarchy, and where it has none by its place among the absent names
abbrev pub number_by : ℕ → Option ℕ → Option ℕ → Option ℕ
number_by dims (Some place) k = numbered 7 dims place
number_by dims None (Some k) = absent_number dims k
number_by dims None None = None

-- a class, or an array of so many dimensions of one
abbrev pub class_number : List ClassFact → List (List ℕ) → ℕ → List ℕ → Option ℕ
class_number classes absent dims name =
    number_by dims (place_in classes name) (position (bytes_eq name) absent)

-- an array: so many dimensions, and those of a type
abbrev pub array_number : List ClassFact → List (List ℕ) → ℕ → FieldDescriptor → Option ℕ
array_number classes absent dims (primitive p) = numbered 9 dims (element_code p)
array_number classes absent dims (class_type name) = class_number classes absent dims name
array_number classes absent dims (array_type component) = array_number classes absent (dims + 1) component

-- the number of a type among the classes of a hierarchy and some absent ones
abbrev pub number_of : List ClassFact → List (List ℕ) → VerificationType → Option ℕ
number_of classes absent top = numbered 0 0 0
number_of classes absent int = numbered 1 0 0
number_of classes absent float = numbered 2 0 0
number_of classes absent double = numbered 3 0 0
number_of classes absent long = numbered 4 0 0
number_of classes absent null = numbered 5 0 0
number_of classes absent uninit_this = numbered 6 0 0
number_of classes absent (class name) = class_number classes absent 0 name
number_of classes absent (uninit offset) = numbered 8 0 offset
number_of classes absent (array component) = array_number classes absent 1 component

-- ---- numbers that were given out

-- the classes of a hierarchy, the absent names that have numbers, in the order in which they got them, and of the
-- names in the hierarchy those that have numbers, by their places
pub record Numbering : Type 0 where
  pub classes : List ClassFact
  pub absent : List (List ℕ)
  pub present : List (ℕ × List ℕ)

-- the name in the hierarchy that has its number by this place
abbrev pub present_at : Numbering → ℕ → Option (List ℕ)
present_at s place = lookup (is_at (nat_cmp place)) s.present

-- the class of this name has its number, where it is in the hierarchy
abbrev pub IsNoted : Numbering → List ℕ → Type 0
IsNoted s name = (place : ℕ) → place_in s.classes name ≡ Some place → present_at s place ≡ Some name

-- and so has the class that an array is one of
abbrev pub IsBaseNoted : Numbering → FieldDescriptor → Type 0
IsBaseNoted s (primitive p) = Unit {0}
IsBaseNoted s (class_type name) = IsNoted s name
IsBaseNoted s (array_type component) = IsBaseNoted s component

abbrev pub IsTypeNoted : Numbering → VerificationType → Type 0
IsTypeNoted s (class name) = IsNoted s name
IsTypeNoted s (array component) = IsBaseNoted s component
IsTypeNoted s _ = Unit {0}

-- the type was given this number
pub record IsNumber (s : Numbering) (n : ℕ) (t : VerificationType) : Type 0 where
  pub number : number_of s.classes s.absent t ≡ Some n
  pub noted : IsTypeNoted s t

-- the number was given to a type
abbrev pub IsGiven : Numbering → ℕ → Type 0
IsGiven s n = (t : VerificationType) × IsNumber s n t

-- a number exactly where there is a type, and then the number of that type
abbrev pub IsNumberOf : Numbering → Option ℕ → Option VerificationType → Type 0
IsNumberOf s None None = Unit {0}
IsNumberOf s None (Some t) = ⊥
IsNumberOf s (Some n) None = ⊥
IsNumberOf s (Some n) (Some t) = IsNumber s n t

-- no number is taken back
pub record Extends (old new : Numbering) : Type 0 where
  pub classes : new.classes ≡ old.classes
  pub absent : (name : List ℕ) (k : ℕ) → position (bytes_eq name) old.absent ≡ Some k
      → position (bytes_eq name) new.absent ≡ Some k
  pub present : (place : ℕ) (name : List ℕ) → present_at old place ≡ Some name → present_at new place ≡ Some name
