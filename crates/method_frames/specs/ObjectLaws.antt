-- The laws of objects by their numbers: another number takes the place of an object's exactly where another type takes
-- the place of the object.
use Rattle.std.specs.Prelude.{◌≡◌, ℕ, ◌<◌, true, List, map, slice_index, length}
use Rattle.frames.specs.FrameFact.{FrameFact}
use Rattle.frames.specs.VerificationType.{VerificationType, uninit_this, uninit}
use Rattle.frames.specs.Objects.{is_initialized, replaced as type_replaced}
use Rattle.frames.specs.Objects.{has_object}
use Rattle.type_numbers.specs.Numbers.{Numbering, IsNumber, IsGiven}
use Rattle.type_numbers.specs.Decoding.{types_by}
use Rattle.method_frames.specs.Objects.{own_object, made_object, is_uninitialized, holds, replaced}

-- the type is that of an object that is not initialized
abbrev pub IsObjectType : VerificationType → Type 0
IsObjectType t = is_initialized t t ≡ true

-- one type takes the place of another in the locals and on the stack of a frame
pub record ObjectBecomes (o t : VerificationType) (old new : FrameFact) : Type 0 where
  pub locals : new.locals ≡ map (type_replaced o t) old.locals
  pub stack : new.stack ≡ map (type_replaced o t) old.stack

-- these objects have these numbers
abbrev pub ObjectsHaveNumbers : Type 0
ObjectsHaveNumbers = (s : Numbering) → IsNumber s own_object uninit_this
    × ((at : ℕ) → at < 65536 → IsNumber s (made_object at) (uninit at))

-- each of them has the number of one
abbrev pub ObjectsAreObjects : Type 0
ObjectsAreObjects = (s : Numbering) (n : ℕ) (t : VerificationType) → IsNumber s n t → IsObjectType t
    → is_uninitialized n ≡ true

-- another type takes the place of an object, where its number takes the place of the object's
abbrev pub TypesAreReplaced : Type 0
TypesAreReplaced = (s : Numbering) (object by : ℕ) (o t : VerificationType) → IsNumber s object o → IsNumber s by t
    → IsObjectType o → (row : List ℕ) → ((i : ℕ) → i < length row → IsGiven s (slice_index row i))
    → types_by s (map (replaced object by) row) ≡ map (type_replaced o t) (types_by s row)

-- an object is among types, where its number is among theirs
abbrev pub ObjectsAreFound : Type 0
ObjectsAreFound = (s : Numbering) (object : ℕ) (o : VerificationType) → IsNumber s object o → IsObjectType o
    → (row : List ℕ) → ((i : ℕ) → i < length row → IsGiven s (slice_index row i))
    → holds object row ≡ has_object o (types_by s row)
