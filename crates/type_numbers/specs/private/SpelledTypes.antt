-- Types that bytes are known to begin with, each within the limits (JVMS 4.3.2).
use Rattle.std.specs.Prelude.{◌≡◌, ℕ, ◌≤◌, ◌∷◌, ◌++◌, Bool, false, not, nat_eq, List, Option, is_some, length}
use Rattle.std.specs.List.{AllByRecursion, flat_map, list_any}
use Rattle.names.specs.Names.{semicolon}
use Rattle.names.specs.Forms.{AreBetween}
use Rattle.names.specs.Descriptors.{FieldDescriptor, dimensions, field_spelling, result_spelling, result_types, right_parenthesis, IsWellNamed, IsResultWellNamed}
use Rattle.names.specs.Reading.{is_deep}

-- the bytes are the descriptor of this type, with others after it
pub record BeginsWith (bytes : List ℕ) (t : FieldDescriptor) (rest : List ℕ) : Type 0 where
  pub named : IsWellNamed t
  pub shallow : dimensions t ≤ 255
  pub parts : bytes ≡ field_spelling t ++ rest

-- the bytes are the descriptor of this type, which is no array, with others after it
pub record BeginsWithBase (bytes : List ℕ) (t : FieldDescriptor) (rest : List ℕ) : Type 0 where
  pub named : IsWellNamed t
  pub flat : dimensions t ≡ 0
  pub parts : bytes ≡ field_spelling t ++ rest

abbrev pub is_other : ℕ → Bool
is_other b = not (nat_eq b semicolon)

-- no byte in front of a place is a ';'
pub record AreOthersUpTo (bytes : List ℕ) (end : ℕ) : Type 0 where
  pub within : end ≤ length bytes
  pub others : AreBetween is_other bytes 0 end

-- the bytes are the descriptors of these types, and others from a ')' on
pub record AreInFront (bytes : List ℕ) (types : List FieldDescriptor) (rest : List ℕ) : Type 0 where
  pub named : AllByRecursion IsWellNamed types
  pub shallow : list_any is_deep types ≡ false
  pub parts : bytes ≡ flat_map field_spelling types ++ right_parenthesis ∷ rest

-- the bytes are those of a result, which is this type or none
pub record IsResult (has_result : Bool) (bytes : List ℕ) (t : Option FieldDescriptor) : Type 0 where
  pub named : IsResultWellNamed t
  pub shallow : list_any is_deep (result_types t) ≡ false
  pub has : has_result ≡ is_some t
  pub parts : bytes ≡ result_spelling t
