-- The type that a number stands for, by its tag, its dimensions and the two bytes after them; so each row of numbers
-- is one of types.
use Rattle.std.specs.Prelude.{ℕ, zero, suc, ◌+◌, ◌-◌, ◌*◌, ◌/◌, ◌%◌, nat_eq, if◌then◌else◌, List, map, Option, Some, None, slice_get}
use Rattle.names.specs.declared.base.Primitive.{Primitive}
use Rattle.names.specs.declared.base.Primitive.TheVariants.{Byte, Char, Double, Float, Int, Long, Short, Boolean}
use Rattle.names.specs.Descriptors.{primitive, class as class_type, dimensioned}
use Rattle.frames.specs.VerificationType.{VerificationType, top, int, float, long, double, null, class, array, uninit_this, uninit}
use Rattle.type_numbers.specs.Numbers.{Numbering, present_at}

-- the primitive type of this number as the element of an array
abbrev pub element_at : ℕ → Primitive
element_at code =
    if nat_eq code 4 then Boolean
    else if nat_eq code 5 then Char
    else if nat_eq code 6 then Float
    else if nat_eq code 7 then Double
    else if nat_eq code 8 then Byte
    else if nat_eq code 9 then Short
    else if nat_eq code 10 then Int
    else Long

-- a class, or an array of so many dimensions of one
abbrev pub type_named : ℕ → List ℕ → VerificationType
type_named zero name = class name
type_named (suc d) name = array (dimensioned d (class_type name))

abbrev pub type_with : ℕ → Option (List ℕ) → Option VerificationType
type_with dims None = None
type_with dims (Some name) = Some (type_named dims name)

-- the name of a class by the tag and the two bytes of its number
abbrev pub name_at : Numbering → ℕ → ℕ → Option (List ℕ)
name_at s tag rest =
    if nat_eq tag 7 then present_at s rest
    else slice_get s.absent ((tag - 10) * 65536 + rest)

abbrev pub type_at : Numbering → ℕ → ℕ → ℕ → Option VerificationType
type_at s tag dims rest =
    if nat_eq tag 0 then Some top
    else if nat_eq tag 1 then Some int
    else if nat_eq tag 2 then Some float
    else if nat_eq tag 3 then Some double
    else if nat_eq tag 4 then Some long
    else if nat_eq tag 5 then Some null
    else if nat_eq tag 6 then Some uninit_this
    else if nat_eq tag 8 then Some (uninit rest)
    else if nat_eq tag 9 then Some (array (dimensioned (dims - 1) (primitive (element_at rest))))
    else type_with dims (name_at s tag rest)

-- top where a number was not given to a type
abbrev pub or_top : Option VerificationType → VerificationType
or_top None = top
or_top (Some t) = t

-- the type that has a number
abbrev pub type_by : Numbering → ℕ → VerificationType
type_by s n = or_top (type_at s (n / 16777216) (n / 65536 % 256) (n % 65536))

-- the types of a row of numbers
abbrev pub types_by : Numbering → List ℕ → List VerificationType
types_by s row = map (type_by s) row
