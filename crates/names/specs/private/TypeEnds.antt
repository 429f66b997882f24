-- Where the types of a descriptor end, found by place. Words of the code's own steps.
use Rattle.std.specs.Prelude.{◌≡◌, ℕ, ◌+◌, ◌-◌, ◌*◌, ◌≤◌, ◌<◌, Bool, false, true, nat_eq, ◌||◌, if◌then◌else◌, List, length, drop, slice_index, sum_by, Option}
use Rattle.std.specs.List.{list_any}
use Rattle.std.specs.Option.{is_some}
use Rattle.std.specs.Int.{bit_at}
use Rattle.names.specs.Names.{slash}
use Rattle.names.specs.Descriptors.{FieldDescriptor, dimensions, field_width, result_types}
use Rattle.names.specs.Reading.{found, goes_on, is_deep, read_base, read_field, read_params, read_result, primitive_of}

-- a class name goes on with the byte at a place, after the one before it
abbrev pub goes_on_at : List ℕ → ℕ → Bool
goes_on_at bytes place = goes_on (nat_eq (slice_index bytes (place - 1)) slash) (slice_index bytes place)

-- it does so at each of n places from one on, unless the bit of that place is set
abbrev pub AreStops : List ℕ → ℕ → ℕ → ℕ → Type 0
AreStops bytes at n mask = (k : ℕ) → k < n → bit_at mask k ≡ 0 → goes_on_at bytes (at + k) ≡ true

-- it does so at each place up to one, of the first 64, unless its bit is set
abbrev pub AreStopsUpTo : List ℕ → ℕ → ℕ → Type 0
AreStopsUpTo bytes end mask = (k : ℕ) → 1 ≤ k → k < end → k < 64 → bit_at mask k ≡ 0 → goes_on_at bytes k ≡ true

-- it does so at each place from one up to another
pub record GoesOnUpTo (bytes : List ℕ) (start end : ℕ) : Type 0 where
  pub ordered : start ≤ end
  pub within : end ≤ length bytes
  pub goes : (k : ℕ) → start ≤ k → k < end → goes_on_at bytes k ≡ true

-- the letter of a primitive type
abbrev pub is_letter : ℕ → Bool
is_letter b = is_some (primitive_of b)

-- a type that begins with the byte of a 'D' or a 'J' takes two units, any other one
abbrev pub units_of : ℕ → ℕ
units_of first = if nat_eq first 68 || nat_eq first 74 then 2 else 1

-- a type that is not an array begins at one place and ends at the other
pub record ReadsBase (bytes : List ℕ) (at end : ℕ) : Type 0 where
  pub type : FieldDescriptor
  pub within : end ≤ length bytes
  pub reads : read_base (drop at bytes) ≡ found type (drop end bytes)
  pub flat : dimensions type ≡ 0
  pub width : field_width type ≡ units_of (slice_index bytes at)

-- a type of at most 255 dimensions does
pub record ReadsType (bytes : List ℕ) (at end : ℕ) : Type 0 where
  pub type : FieldDescriptor
  pub within : end ≤ length bytes
  pub reads : read_field (drop at bytes) ≡ found type (drop end bytes)
  pub shallow : is_deep type ≡ false
  pub width : field_width type ≡ units_of (slice_index bytes at)

-- parameters of so many units stand after the first byte, and at this place the ')' after them
pub record SeesParams (bytes : List ℕ) (end units : ℕ) : Type 0 where
  pub types : List FieldDescriptor
  pub within : end < length bytes
  pub few : units ≤ 2 * end
  pub reads : read_params (length (drop 1 bytes)) (drop 1 bytes) ≡ found types (drop (end + 1) bytes)
  pub shallow : list_any is_deep types ≡ false
  pub width : sum_by field_width types ≡ units

-- a result stands at this place, or a 'V', up to the end
pub record SeesResult (bytes : List ℕ) (at : ℕ) (has_result : Bool) : Type 0 where
  pub type : Option FieldDescriptor
  pub rest : List ℕ
  pub reads : read_result (drop at bytes) ≡ found type rest
  pub over : length rest ≡ 0
  pub shallow : list_any is_deep (result_types type) ≡ false
  pub is : has_result ≡ is_some type
