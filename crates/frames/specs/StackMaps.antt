-- The body of a StackMapTable (JVMS 4.7.4): its entries, which bytes spell them, and what they are written as.
use Rattle.std.specs.Prelude.{ℕ, ◌+◌, ◌-◌, Bool, ◌&&◌, Option, Some, None, List, [], ◌∷◌, ◌++◌, length, nat_eq, nat_le, if◌then◌else◌}
use Rattle.std.specs.List.{flat_map}
use Rattle.layout.specs.declared.fault.ReadFault.{ReadFault}
use Rattle.layout.specs.declared.fault.ReadFault.TheVariants.{AttributeLength, BadFrameType, BadTypeTag}
use Rattle.layout.specs.Format.{Format, Spells, done, refuse, andthen, number, times}
use Rattle.layout.specs.Whole.{WholeFault}
use Rattle.layout.specs.Pieces.{Piece, unspelled, field}
use Rattle.layout.specs.PieceLaws.{counted}

-- a type as an entry gives it
pub data TypeInfo : Type 0 where
  top integer float double long null uninitialized_this : TypeInfo
  object : (class : ℕ) → TypeInfo
  uninitialized : (offset : ℕ) → TypeInfo

-- An entry by its form, with its offset_delta. The forms chop 1 to 3 locals, and append 1 to 3.
pub data MapEntry : Type 0 where
  same : (delta : ℕ) → MapEntry
  same_with_item : (delta : ℕ) (item : TypeInfo) → MapEntry
  same_with_item_extended : (delta : ℕ) (item : TypeInfo) → MapEntry
  chop : (count delta : ℕ) → MapEntry
  same_extended : (delta : ℕ) → MapEntry
  append : (delta : ℕ) (locals : List TypeInfo) → MapEntry
  full : (delta : ℕ) (locals stack : List TypeInfo) → MapEntry

-- what stands after a tag
abbrev pub type_behind : ℕ → Format TypeInfo
type_behind tag =
    if nat_eq tag 0 then done top
    else if nat_eq tag 1 then done integer
    else if nat_eq tag 2 then done float
    else if nat_eq tag 3 then done double
    else if nat_eq tag 4 then done long
    else if nat_eq tag 5 then done null
    else if nat_eq tag 6 then done uninitialized_this
    else if nat_eq tag 7 then andthen (number 2) (λ class. done (object class))
    else if nat_eq tag 8 then andthen (number 2) (λ offset. done (uninitialized offset))
    else refuse (λ at. BadTypeTag (at - 1))

unfoldable pub type_info : Format TypeInfo
type_info = andthen (number 1) type_behind

unfoldable pub type_table : Format (List TypeInfo)
type_table = andthen (number 2) (λ count. times count type_info)

-- what stands after a frame type; 128 to 246 are reserved
abbrev pub entry_behind : ℕ → Format MapEntry
entry_behind type =
    if nat_le type 63 then done (same type)
    else if nat_le type 127 then andthen type_info (λ item. done (same_with_item (type - 64) item))
    else if nat_le type 246 then refuse (λ at. BadFrameType (at - 1))
    else if nat_eq type 247 then andthen (number 2)
    (λ delta. andthen type_info (λ item. done (same_with_item_extended delta item)))
    else if nat_le type 250 then andthen (number 2) (λ delta. done (chop (251 - type) delta))
    else if nat_eq type 251 then andthen (number 2) (λ delta. done (same_extended delta))
    else if nat_le type 254 then andthen (number 2)
    (λ delta. andthen (times (type - 251) type_info) (λ locals. done (append delta locals)))
    else andthen (number 2) (λ delta. andthen type_table
    (λ locals. andthen type_table (λ stack. done (full delta locals stack))))

unfoldable pub map_entry : Format MapEntry
map_entry = andthen (number 1) entry_behind

unfoldable pub stack_map : Format (List MapEntry)
stack_map = andthen (number 2) (λ count. times count map_entry)

-- ---- whole bodies

-- the body is the spelling of these entries, and nothing stands after them
abbrev pub IsMap : List ℕ → List MapEntry → Type 0
IsMap body entries = Spells stack_map body entries

-- The first fault: a part that is not whole or breaks its rule, or the first byte left over (12).
abbrev pub MapFault : List ℕ → ReadFault → Type 0
MapFault body e = WholeFault stack_map AttributeLength body e

-- ---- what a map is written as: an entry that no frame type stands for has no spelling, but counts with all its parts

abbrev pub tag_of : TypeInfo → ℕ
tag_of top = 0
tag_of integer = 1
tag_of float = 2
tag_of double = 3
tag_of long = 4
tag_of null = 5
tag_of uninitialized_this = 6
tag_of (object class) = 7
tag_of (uninitialized offset) = 8

-- after the tag
abbrev pub operand_pieces : TypeInfo → List Piece
operand_pieces (object class) = field 2 class
operand_pieces (uninitialized offset) = field 2 offset
operand_pieces t = []

abbrev pub type_pieces : TypeInfo → List Piece
type_pieces t = field 1 (tag_of t) ++ operand_pieces t

-- the number lies in the range
abbrev pub between : ℕ → ℕ → ℕ → Bool
between least most n = nat_le least n && nat_le n most

abbrev pub frame_type : MapEntry → Option ℕ
frame_type (same delta) = if nat_le delta 63 then Some delta else None
frame_type (same_with_item delta item) = if nat_le delta 63 then Some (64 + delta) else None
frame_type (same_with_item_extended delta item) = Some 247
frame_type (chop count delta) = if between 1 3 count then Some (251 - count) else None
frame_type (same_extended delta) = Some 251
frame_type (append delta locals) = if between 1 3 (length locals) then Some (251 + length locals) else None
frame_type (full delta locals stack) = Some 255

-- a frame type takes a byte
abbrev pub frame_type_pieces : Option ℕ → List Piece
frame_type_pieces (Some type) = field 1 type
frame_type_pieces None = unspelled ∷ field 1 0

-- after the frame type
abbrev pub behind_pieces : MapEntry → List Piece
behind_pieces (same delta) = []
behind_pieces (same_with_item delta item) = type_pieces item
behind_pieces (same_with_item_extended delta item) = field 2 delta ++ type_pieces item
behind_pieces (chop count delta) = field 2 delta
behind_pieces (same_extended delta) = field 2 delta
behind_pieces (append delta locals) = field 2 delta ++ flat_map type_pieces locals
behind_pieces (full delta locals stack) = field 2 delta ++ (counted type_pieces locals ++ counted type_pieces stack)

abbrev pub entry_pieces : MapEntry → List Piece
entry_pieces e = frame_type_pieces (frame_type e) ++ behind_pieces e

abbrev pub map_pieces : List MapEntry → List Piece
map_pieces entries = counted entry_pieces entries
