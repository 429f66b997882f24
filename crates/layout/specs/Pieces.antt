-- A value as it is written: a list of pieces, one after the other. The pieces say both what the bytes are (`text`) and
-- why there are none (`cannot`): a count or a length that passes its field, or more bytes than a class file may have
-- (17), and otherwise something that no bytes spell (18).
use Rattle.std.specs.Prelude.{◌≡◌, ℕ, ◌-◌, ◌^◌, Bool, true, false, ◌||◌, Option, Some, None, List, [], ◌∷◌, ◌++◌, length, nat_lt, if◌then◌else◌, Result, Ok, Err}
use Rattle.byteorder.specs.Endian.{big_bytes}
use Rattle.layout.specs.declared.fault.WriteFault.{WriteFault}
use Rattle.layout.specs.declared.fault.WriteFault.TheVariants.{DoesNotFit, HasNoSpelling}
use Rattle.layout.specs.Faults.{UnlessWriteMemory}
use Rattle.layout.specs.declared.limits.TheConstants.{MAX_CLASS_BYTES}

pub data Piece : Type 0 where
  -- these bytes
  plain : List ℕ → Piece
  -- a count or a length passes its field
  over : Piece
  -- no bytes spell this
  unspelled : Piece

-- a number in a field of n bytes
abbrev pub sized : ℕ → ℕ → Piece
sized n k = if nat_lt k (256 ^ n) then plain (big_bytes n k) else over

unfoldable pub field : ℕ → ℕ → List Piece
field n k = sized n k ∷ []

-- the bytes of the plain pieces
abbrev pub text : List Piece → List ℕ
text [] = []
text (plain bytes ∷ pieces) = bytes ++ text pieces
text (over ∷ pieces) = text pieces
text (unspelled ∷ pieces) = text pieces

-- every piece is plain
abbrev pub ArePlain : List Piece → Type 0
ArePlain [] = Unit {0}
ArePlain (plain bytes ∷ pieces) = ArePlain pieces
ArePlain (over ∷ pieces) = ⊥
ArePlain (unspelled ∷ pieces) = ⊥

-- a length of four bytes, and what has it
abbrev pub lengthened : List Piece → List Piece
lengthened pieces = field 4 (length (text pieces)) ++ pieces

-- The state of writing: the bytes so far, how many more there may be, and whether something was met that no bytes
-- spell.
pub record Written : Type 0 where
  pub bytes : List ℕ
  pub room : ℕ
  pub wrong : Bool

-- writing the pieces, as a program does it
abbrev pub writes : List Piece → Written → Result Written WriteFault
writes [] w = Ok w
writes (plain bytes ∷ pieces) w =
    if nat_lt w.room (length bytes) then Err DoesNotFit
    else writes pieces (record { bytes = w.bytes ++ bytes; room = w.room - length bytes; wrong = w.wrong })
writes (over ∷ pieces) w = Err DoesNotFit
writes (unspelled ∷ pieces) w = writes pieces (record { bytes = w.bytes; room = w.room; wrong = true })

-- what is written after what was written
abbrev pub then_writes : Result Written WriteFault → List Piece → Result Written WriteFault
then_writes (Ok w) pieces = writes pieces w
then_writes (Err e) pieces = Err e

-- A step wrote the pieces, or was refused as they are.
abbrev pub Goes : List Piece → Written → Written → Result (Unit {0}) WriteFault → Type 0
Goes pieces old new (Ok x) = writes pieces old ≡ Ok new
Goes pieces old new (Err e) = UnlessWriteMemory e (writes pieces old ≡ Err e)

-- some piece is too large for its field
abbrev pub has_over : List Piece → Bool
has_over [] = false
has_over (plain bytes ∷ pieces) = has_over pieces
has_over (over ∷ pieces) = true
has_over (unspelled ∷ pieces) = has_over pieces

-- some piece has no spelling
abbrev pub has_unspelled : List Piece → Bool
has_unspelled [] = false
has_unspelled (plain bytes ∷ pieces) = has_unspelled pieces
has_unspelled (over ∷ pieces) = has_unspelled pieces
has_unspelled (unspelled ∷ pieces) = true

-- a field is passed, or the limit of a class file
abbrev pub too_large : List Piece → Bool
too_large pieces = has_over pieces || nat_lt MAX_CLASS_BYTES (length (text pieces))

-- why the pieces are not written: what is too large comes first
unfoldable pub cannot : List Piece → Option WriteFault
cannot pieces = if too_large pieces then Some DoesNotFit else if has_unspelled pieces then Some HasNoSpelling else None

-- The pieces were written, or it is told why not.
abbrev pub Delivers : {X : Type 0} → List Piece → (X → List ℕ) → Result X WriteFault → Type 0
Delivers pieces bytes (Ok x) = (cannot pieces ≡ None) × (bytes x ≡ text pieces)
Delivers pieces bytes (Err e) = UnlessWriteMemory e (cannot pieces ≡ Some e)

-- The pieces' bytes were appended, or it is told why not, and then nothing changed.
abbrev pub Puts : List Piece → List ℕ → List ℕ → Result (Unit {0}) WriteFault → Type 0
Puts pieces old new (Ok x) = (cannot pieces ≡ None) × (new ≡ old ++ text pieces)
Puts pieces old new (Err e) = UnlessWriteMemory e (cannot pieces ≡ Some e) × (new ≡ old)

-- nothing written yet
abbrev pub blank : Written
blank = record { bytes = []; room = MAX_CLASS_BYTES; wrong = false }

-- what is told where all was written
abbrev pub delivered : Written → Result (List ℕ) WriteFault
delivered w = if w.wrong then Err HasNoSpelling else Ok w.bytes

-- what may only be written where the test holds
abbrev pub marked : Bool → List Piece → List Piece
marked true pieces = pieces
marked false pieces = unspelled ∷ pieces
