-- The constant pool (JVMS 4.1, 4.4): its entries, which bytes spell them, and what they are written as.
-- An entry is a tag and a body, which is read number by number. What a tag allows is decided at the tag.
use Rattle.std.specs.Prelude.{ℕ, zero, suc, ◌+◌, ◌-◌, Bool, true, false, not, List, [], ◌∷◌, ◌++◌, length, nat_eq, if◌then◌else◌, Option, Some, None}
use Rattle.layout.specs.declared.fault.ReadFault.TheVariants.{BadTag, BadText, BadPoolCount}
use Rattle.layout.specs.Format.{Format, done, part, refuse, andthen, number}
use Rattle.layout.specs.Pieces.{Piece, plain, unspelled, field, marked}
use Rattle.names.specs.Units.{bad_text}
use Rattle.pool.specs.declared.kind.ReferenceKind.{ReferenceKind}
use Rattle.pool.specs.Kinds.{kind_number, kind_of}

-- The entry at an index, with the standard's names for its parts. A text is the list of its bytes.
pub data Entry : Type 0 where
  Utf8 : (bytes : List ℕ) → Entry
  Integer : (bits : ℕ) → Entry
  Float : (bits : ℕ) → Entry
  Long : (high low : ℕ) → Entry
  Double : (high low : ℕ) → Entry
  Class : (name : ℕ) → Entry
  String : (text : ℕ) → Entry
  Fieldref : (class name_and_type : ℕ) → Entry
  Methodref : (class name_and_type : ℕ) → Entry
  InterfaceMethodref : (class name_and_type : ℕ) → Entry
  NameAndType : (name descriptor : ℕ) → Entry
  MethodHandle : (kind : ReferenceKind) (reference : ℕ) → Entry
  MethodType : (descriptor : ℕ) → Entry
  Dynamic : (bootstrap name_and_type : ℕ) → Entry
  InvokeDynamic : (bootstrap name_and_type : ℕ) → Entry
  -- the second index of a Long or Double
  Unusable : Entry

-- ---- which bytes spell an entry

-- a body of one number of n bytes
unfoldable pub one : ℕ → (ℕ → Entry) → Format Entry
one n make = andthen (number n) (λ x. done (make x))

-- a body of two numbers of n bytes
unfoldable pub two : ℕ → (ℕ → ℕ → Entry) → Format Entry
two n make = andthen (number n) (λ x. andthen (number n) (λ y. done (make x y)))

-- the text of bytes that were just read, where they are one (JVMS 4.4.7)
abbrev pub text_or : List ℕ → Option ℕ → Format Entry
text_or bytes None = done (Utf8 bytes)
text_or bytes (Some k) = refuse (λ at. BadText ((at - length bytes) + k))

unfoldable pub utf8 : Format Entry
utf8 = andthen (number 2) (λ n. part n (λ bytes. text_or bytes (bad_text bytes)))

-- the reference after a kind that was just read, where it is one (JVMS 4.4.8)
abbrev pub kind_or : ℕ → Option ReferenceKind → Format Entry
kind_or n None = refuse (λ at. BadTag (at - 1) n)
kind_or n (Some kind) = andthen (number 2) (λ reference. done (MethodHandle kind reference))

unfoldable pub method_handle : Format Entry
method_handle = andthen (number 1) (λ n. kind_or n (kind_of n))

-- a body that wants a second index, which the last index has not (JVMS 4.4.5); the tag was just read
abbrev pub wide : Bool → ℕ → Format Entry → Format Entry
wide last tag format = if last then refuse (λ at. BadTag (at - 1) tag) else format

-- what stands after a tag (JVMS 4.4); `last` says that no second index is left
abbrev pub body : Bool → ℕ → Format Entry
body last tag =
    if nat_eq tag 1 then utf8
    else if nat_eq tag 3 then one 4 Integer
    else if nat_eq tag 4 then one 4 Float
    else if nat_eq tag 5 then wide last 5 (two 4 Long)
    else if nat_eq tag 6 then wide last 6 (two 4 Double)
    else if nat_eq tag 7 then one 2 Class
    else if nat_eq tag 8 then one 2 String
    else if nat_eq tag 9 then two 2 Fieldref
    else if nat_eq tag 10 then two 2 Methodref
    else if nat_eq tag 11 then two 2 InterfaceMethodref
    else if nat_eq tag 12 then two 2 NameAndType
    else if nat_eq tag 15 then method_handle
    else if nat_eq tag 16 then one 2 MethodType
    else if nat_eq tag 17 then two 2 Dynamic
    else if nat_eq tag 18 then two 2 InvokeDynamic
    else refuse (λ at. BadTag (at - 1) tag)

unfoldable pub entry : Bool → Format Entry
entry last = andthen (number 1) (λ tag. body last tag)

-- the entry takes two indices
abbrev pub is_wide : Entry → Bool
is_wide (Long high low) = true
is_wide (Double high low) = true
is_wide e = false

-- what stands at an index: no bytes spell the second index of a Long or Double
abbrev pub indexed : Bool → Bool → Format Entry
indexed true last = done Unusable
indexed false last = entry last

-- the entries of so many indices; `second` says that the first is the second index of a Long or Double
unfoldable pub entries : ℕ → Bool → Format (List Entry)
entries zero second = done []
entries (suc n) second = andthen (indexed second (nat_eq n 0))
    (λ e. andthen (entries n (is_wide e)) (λ others. done (e ∷ others)))

-- constant_pool_count, which is one more than the number of indices, and the entries (JVMS 4.1)
unfoldable pub pool : Format (List Entry)
pool = andthen (number 2) (λ count. if nat_eq count 0 then refuse (λ at. BadPoolCount (at - 2))
    else entries (count - 1) false)

-- ---- what an entry is written as: what may not stand where it does has no spelling, but counts with all its parts

-- bytes that are a text
abbrev pub text_pieces : List ℕ → Option ℕ → List Piece
text_pieces bytes None = plain bytes ∷ []
text_pieces bytes (Some k) = unspelled ∷ plain bytes ∷ []

abbrev pub entry_pieces : Bool → Entry → List Piece
entry_pieces last (Utf8 bytes) = field 1 1 ++ (field 2 (length bytes) ++ text_pieces bytes (bad_text bytes))
entry_pieces last (Integer bits) = field 1 3 ++ field 4 bits
entry_pieces last (Float bits) = field 1 4 ++ field 4 bits
entry_pieces last (Long high low) = marked (not last) (field 1 5 ++ (field 4 high ++ field 4 low))
entry_pieces last (Double high low) = marked (not last) (field 1 6 ++ (field 4 high ++ field 4 low))
entry_pieces last (Class name) = field 1 7 ++ field 2 name
entry_pieces last (String text) = field 1 8 ++ field 2 text
entry_pieces last (Fieldref class name_and_type) = field 1 9 ++ (field 2 class ++ field 2 name_and_type)
entry_pieces last (Methodref class name_and_type) = field 1 10 ++ (field 2 class ++ field 2 name_and_type)
entry_pieces last (InterfaceMethodref class name_and_type) = field 1 11 ++ (field 2 class ++ field 2 name_and_type)
entry_pieces last (NameAndType name descriptor) = field 1 12 ++ (field 2 name ++ field 2 descriptor)
entry_pieces last (MethodHandle kind reference) = field 1 15 ++ (field 1 (kind_number kind) ++ field 2 reference)
entry_pieces last (MethodType descriptor) = field 1 16 ++ field 2 descriptor
entry_pieces last (Dynamic bootstrap name_and_type) = field 1 17 ++ (field 2 bootstrap ++ field 2 name_and_type)
entry_pieces last (InvokeDynamic bootstrap name_and_type) = field 1 18 ++ (field 2 bootstrap ++ field 2 name_and_type)
entry_pieces last Unusable = unspelled ∷ []

-- at the second index of a Long or Double
abbrev pub second_pieces : Bool → Entry → List Piece
second_pieces last Unusable = []
second_pieces last e = unspelled ∷ entry_pieces last e

abbrev pub indexed_pieces : Bool → Bool → Entry → List Piece
indexed_pieces true last e = second_pieces last e
indexed_pieces false last e = entry_pieces last e

unfoldable pub entries_pieces : Bool → List Entry → List Piece
entries_pieces second [] = []
entries_pieces second (e ∷ es) = indexed_pieces second (nat_eq (length es) 0) e ++ entries_pieces (is_wide e) es

unfoldable pub pool_pieces : List Entry → List Piece
pool_pieces es = field 2 (length es + 1) ++ entries_pieces false es
