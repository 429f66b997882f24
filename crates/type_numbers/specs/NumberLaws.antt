-- The laws of numbers: each number is one type, each type has one number, numbers that were given out stay, and they
-- are the slots of packed frames where the hierarchy has the class.
use Rattle.std.specs.Prelude.{◌≡◌, ◌≢◌, ℕ, ◌<◌}
use Rattle.frames.specs.VerificationType.{VerificationType}
use Rattle.frames.specs.Packing.{absent_slot, slot_of}
use Rattle.type_numbers.specs.Numbers.{Numbering, IsNumber, Extends}
use Rattle.type_numbers.specs.Decoding.{type_by}

abbrev pub EqualNumbersAreEqualTypes : Type 0
EqualNumbersAreEqualTypes = (s : Numbering) (n : ℕ) (t u : VerificationType) → IsNumber s n t → IsNumber s n u → t ≡ u

abbrev pub TypesHaveOneNumber : Type 0
TypesHaveOneNumber = (s : Numbering) (n m : ℕ) (t : VerificationType) → IsNumber s n t → IsNumber s m t → n ≡ m

-- a number is less than the slot of absent classes
abbrev pub NumbersAreBelowAbsent : Type 0
NumbersAreBelowAbsent = (s : Numbering) (n : ℕ) (t : VerificationType) → IsNumber s n t → n < absent_slot

abbrev pub NumbersAreSlots : Type 0
NumbersAreSlots = (s : Numbering) (n : ℕ) (t : VerificationType) → IsNumber s n t → slot_of s.classes t ≢ absent_slot
    → n ≡ slot_of s.classes t

abbrev pub NumbersStay : Type 0
NumbersStay = (old new : Numbering) → Extends old new → (n : ℕ) (t : VerificationType) → IsNumber old n t
    → IsNumber new n t

-- the type that a number was given to is the one that it stands for
abbrev pub NumbersAreRead : Type 0
NumbersAreRead = (s : Numbering) (n : ℕ) (t : VerificationType) → IsNumber s n t → type_by s n ≡ t
