-- The part of a class file in which a fault of its bytes lies (JVMS 4.1, 4.4 to 4.7): a constant, a field or a method,
-- or an attribute of a field, of a method or of the class. How far each part reaches is told by its outline, so the
-- bytes need not be a class file.
use Rattle.std.specs.Prelude.{◌≡◌, ◌≤◌, ◌<◌, ℕ, zero, suc, ◌+◌, ◌-◌, Bool, false, List, Option, Some, None, nat_lt, nat_eq, slice_get, option_and_then, if◌then◌else◌, Result, Ok, Err}
use Rattle.layout.specs.Format.{Format, reads, andthen, number}
use Rattle.layout.specs.Place.{Place}
use Rattle.layout.specs.declared.fault.ReadFault.{ReadFault}
use Rattle.layout.specs.declared.fault.ReadFault.TheVariants.{EndsEarly, BadText, BadTag, AttributeLength, BytesAfter, TooLong, ReadFailed, BadPoolCount}
use Rattle.classfile.specs.Outline.{head, indexed, constants, numbers, interfaces, repeated, member, attribute}
use Rattle.classfile.specs.declared.file_parts.FilePart.{FilePart}
use Rattle.classfile.specs.declared.form_fault.Place.{Place as Holder}
use Rattle.classfile.specs.declared.form_fault.Place.TheVariants as places

-- ---- the parts

-- the constant at this index; a tag is the first of its bytes
abbrev pub constant_of : ℕ → List ℕ → FilePart
constant_of index bytes = record { place = places.Pool index; tag = slice_get bytes 0; attribute = None }

-- a field or a method in front of its attributes
abbrev pub header_of : Holder → FilePart
header_of holder = record { place = holder; tag = None; attribute = None }

-- the attribute of this number of a field, of a method or of the class
abbrev pub attribute_of : Holder → ℕ → FilePart
attribute_of holder n = record { place = holder; tag = None; attribute = Some n }

-- ---- the search for a place

-- The place lies after what was read so far, which is this, up to here; or it lies in this part, or in none.
abbrev pub Search : Type 0 → Type 0
Search V = Result (V × Place) (Option FilePart)

abbrev pub then_search : {V W : Type 0} → Search V → (V → Place → Search W) → Search W
then_search (Ok x) next = next x.0 x.1
then_search (Err part) next = Err part

-- Bytes were read of a part, or of none: the place lies in it if it is not whole, or ends after the place.
abbrev pub passing : {V : Type 0} → ℕ → Option FilePart → Result (V × Place) ReadFault → Search V
passing at part (Err e) = Err part
passing at part (Ok x) = if nat_lt at x.1.at then Err part else Ok x

abbrev pub search_in : {V : Type 0} → ℕ → Option FilePart → Format V → Place → Search V
search_in at part f here = passing at part (reads f here.at here.rest)

-- what stands between the pool and the number of the fields
unfoldable pub between : Format ℕ
between = andthen (numbers 3) (λ skipped. andthen interfaces (λ skipped. number 2))

-- what stands in front of the attributes of a field or a method, with their number
unfoldable pub member_head : Format ℕ
member_head = andthen (numbers 3) (λ skipped. number 2)

module _ (at : ℕ) where
  -- the constants that are left, as many as indices; the first has this index, and `second` says that it is the second
  -- index of a Long or Double
  unfoldable pub search_constants : (left index : ℕ) → Bool → Place → Search (Unit {0})
  search_constants zero index second here = Ok (tt, here)
  search_constants (suc n) index second here =
      then_search (search_in at (Some (constant_of index here.rest)) (indexed second (nat_eq n 0)) here)
      (search_constants n (index + 1))

  -- the attributes that are left; the first has this number
  unfoldable pub search_attributes : Holder → (left n : ℕ) → Place → Search (Unit {0})
  search_attributes holder zero n here = Ok (tt, here)
  search_attributes holder (suc left) n here =
      then_search (search_in at (Some (attribute_of holder n)) attribute here)
      (λ skipped. search_attributes holder left (n + 1))

  abbrev pub search_member : Holder → Place → Search (Unit {0})
  search_member holder here =
      then_search (search_in at (Some (header_of holder)) member_head here) (λ count. search_attributes holder count 0)

  -- the fields, or the methods, that are left; the first has this number
  unfoldable pub search_members : (ℕ → Holder) → (left n : ℕ) → Place → Search (Unit {0})
  search_members kind zero n here = Ok (tt, here)
  search_members kind (suc left) n here =
      then_search (search_member (kind n) here) (λ skipped. search_members kind left (n + 1))

  -- a number of items that belongs to none of them
  abbrev pub search_count : Place → Search ℕ
  search_count here = search_in at None (number 2) here

  unfoldable pub search_pool : Place → Search (Unit {0})
  search_pool here =
      then_search (search_in at None head here) (λ skipped here. then_search (search_count here)
      (λ count. search_constants (count - 1) 1 false))

  unfoldable pub search_tables : Place → Search (Unit {0})
  search_tables here =
      then_search (search_in at None between here) (λ count here. then_search (search_members places.Field count 0 here)
      (λ skipped here. then_search (search_count here)
      (λ count here. then_search (search_members places.Method count 0 here)
      (λ skipped here. then_search (search_count here) (λ count. search_attributes places.Class count 0)))))

  abbrev pub search_file : Place → Search (Unit {0})
  search_file here = then_search (search_pool here) (λ skipped. search_tables)

-- the part that ends a search
abbrev pub part_of : Search (Unit {0}) → Option FilePart
part_of (Ok behind) = None
part_of (Err part) = part

-- The part in which a place of these bytes lies; it need not be whole. None where the place lies in the magic number,
-- the version, the flags, the indices of the class, its superclass and its interfaces, or in a count of a table of the
-- class; and none after the last part.
abbrev pub file_part : List ℕ → ℕ → Option FilePart
file_part bytes at = part_of (search_file at (record { at = 0; rest = bytes }))

-- ---- the part of a fault

-- where a fault of a class file lies: nowhere, where it is told without a place
abbrev pub place_in : ReadFault → Option ℕ
place_in (EndsEarly at) = Some at
place_in (BadText at) = Some at
place_in (BadTag at tag) = Some at
place_in (AttributeLength at) = Some at
place_in (BytesAfter at) = Some at
place_in (TooLong at) = Some at
place_in (ReadFailed at) = Some at
place_in (BadPoolCount at) = Some at
place_in e = None

abbrev pub fault_part : List ℕ → ReadFault → Option FilePart
fault_part bytes e = option_and_then (file_part bytes) (place_in e)

-- ---- where there is a part

-- what was read is not whole, or ends after the place
abbrev pub IsReached : {V : Type 0} → ℕ → Result (V × Place) ReadFault → Type 0
IsReached at (Err e) = Unit {0}
IsReached at (Ok x) = at < x.1.at

-- After what stands in front, from the beginning of the file, stand so many items, and the place lies in them: not in
-- front of them, and they are not whole or end after it.
abbrev pub LiesBehind : Format ℕ → (ℕ → Format (Unit {0})) → List ℕ → ℕ → Type 0
LiesBehind front items bytes at = (n : ℕ) × (here : Place) × (reads front 0 bytes ≡ Ok (n, here)) × (here.at ≤ at)
    × IsReached at (reads (items n) here.at here.rest)

-- the constants of a pool of this count
abbrev pub counted_constants : ℕ → Format (Unit {0})
counted_constants count = constants (count - 1) false

abbrev pub so_many_members : ℕ → Format (Unit {0})
so_many_members n = repeated n member

abbrev pub so_many_attributes : ℕ → Format (Unit {0})
so_many_attributes n = repeated n attribute

-- what stands in front of the constants, the fields, the methods and the attributes of the class, with their number
abbrev pub to_constants : Format ℕ
to_constants = andthen head (λ skipped. number 2)

abbrev pub to_fields : Format ℕ
to_fields = andthen to_constants (λ count. andthen (counted_constants count) (λ skipped. between))

abbrev pub to_methods : Format ℕ
to_methods = andthen to_fields (λ n. andthen (so_many_members n) (λ skipped. number 2))

abbrev pub to_attributes : Format ℕ
to_attributes = andthen to_methods (λ n. andthen (so_many_members n) (λ skipped. number 2))

-- the place lies in the table in which a part of this place stands
abbrev pub LiesIn : Holder → List ℕ → ℕ → Type 0
LiesIn (places.Pool index) bytes at = LiesBehind to_constants counted_constants bytes at
LiesIn (places.Field n) bytes at = LiesBehind to_fields so_many_members bytes at
LiesIn (places.Method n) bytes at = LiesBehind to_methods so_many_members bytes at
LiesIn places.Class bytes at = LiesBehind to_attributes so_many_attributes bytes at

-- A part is found only in the table in which the place lies, and wherever it lies in a table.
abbrev pub PartIsFound : Type 0
PartIsFound = (bytes : List ℕ) (at : ℕ)
    → ((part : FilePart) → file_part bytes at ≡ Some part → LiesIn part.place bytes at)
    × ((holder : Holder) → LiesIn holder bytes at → (part : FilePart) × (file_part bytes at ≡ Some part))
