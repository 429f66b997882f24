-- Objects of JSON (RFC 8259), each on a line of its own: fields, each a name and a value.
use Rattle.std.specs.Prelude.{ℕ, Bool, not, ◌&&◌, nat_eq, is_none, if◌then◌else◌, List, [], ◌∷◌, ◌++◌, codes, decimal}
use Rattle.std.specs.List.{flat_map}
use Rattle.names.specs.Units.{bad_text, units_of}
use Rattle.printing.specs.Names.{hexadecimal, is_plain}

-- ---- strings (RFC 8259, 7), by their units of UTF-16

-- units of printable ASCII but the quotation mark and the backslash stand as they are
abbrev pub is_unescaped : ℕ → Bool
is_unescaped unit = is_plain unit && not (nat_eq unit 34)

-- another unit is `\u` and its digits
abbrev pub character_text : ℕ → List ℕ
character_text unit = if is_unescaped unit then unit ∷ [] else 92 ∷ 117 ∷ hexadecimal unit

abbrev pub string_text : List ℕ → List ℕ
string_text units = codes "\"" ++ (flat_map character_text units ++ codes "\"")

-- ---- values (RFC 8259, 3): strings, numbers and arrays of strings

-- characters of a string as they are written, within quotation marks
abbrev pub enclosed : List ℕ → List ℕ
enclosed characters = codes "\"" ++ (characters ++ codes "\"")

abbrev pub following : List ℕ → List ℕ
following characters = codes "," ++ enclosed characters

-- an array of strings, each by its characters as they are written (RFC 8259, 5)
abbrev pub array_text : List (List ℕ) → List ℕ
array_text [] = codes "[]"
array_text (s ∷ ss) = codes "[" ++ (enclosed s ++ (flat_map following ss ++ codes "]"))

pub data Value : Type 0 where
  string : (units : List ℕ) → Value
  number : (n : ℕ) → Value
  written : (characters : List ℕ) → Value
  strings : (all : List (List ℕ)) → Value

abbrev pub value_text : Value → List ℕ
value_text (string units) = string_text units
value_text (number n) = decimal n
value_text (written characters) = enclosed characters
value_text (strings all) = array_text all

-- a word of ASCII
abbrev pub word : List ℕ → Value
word bytes = string bytes

-- a name of a class file, by its bytes
abbrev pub name : List ℕ → Value
name bytes = string (units_of bytes)

-- the units of bytes that spell a text; of others none
abbrev pub spelled_units : List ℕ → List ℕ
spelled_units bytes = if is_none (bad_text bytes) then units_of bytes else []

abbrev pub spelled : List ℕ → Value
spelled bytes = string (spelled_units bytes)

-- ---- objects (RFC 8259, 4)

-- a name and a value
abbrev pub Field : Type 0
Field = List ℕ × Value

abbrev pub field_text : Field → List ℕ
field_text f = string_text f.0 ++ (codes ":" ++ value_text f.1)

-- the fields after others, and then this text
abbrev pub fields_then : List Field → List ℕ → List ℕ
fields_then [] rest = rest
fields_then (f ∷ fs) rest = codes "," ++ (field_text f ++ fields_then fs rest)

-- the end of an object and of its line
abbrev pub object_end : List ℕ
object_end = codes "}\n"

-- the fields after others, and the end
abbrev pub fields_behind : List Field → List ℕ
fields_behind fs = fields_then fs object_end

-- its first field, the others, and then this text
abbrev pub object_then : Field → List Field → List ℕ → List ℕ
object_then f fs rest = codes "{" ++ (field_text f ++ fields_then fs rest)

abbrev pub object_line : List Field → List ℕ
object_line [] = codes "{}\n"
object_line (f ∷ fs) = codes "{" ++ (field_text f ++ fields_behind fs)
