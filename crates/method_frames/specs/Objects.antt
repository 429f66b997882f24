-- Objects that are not initialized (JVMS 4.10.1.9, new and invokespecial), by the numbers of their types.
use Rattle.std.specs.Prelude.{ℕ, ◌+◌, ◌/◌, Bool, false, ◌||◌, nat_eq, if◌then◌else◌, List, [], ◌∷◌, map}
use Rattle.frames.specs.VerificationType.{class}
use Rattle.type_numbers.specs.Numbers.{Numbering, IsNumber}
use Rattle.blocks.specs.Rows.{replaced as number_replaced}
use Rattle.method_frames.specs.NumberedFrames.{NumberedFrame}

-- the number of the own object that is not initialized
abbrev pub own_object : ℕ
own_object = 100663296

-- the number of an object that the `new` at this offset made
abbrev pub made_object : ℕ → ℕ
made_object at = 134217728 + at

-- the number is that of such an object
abbrev pub is_uninitialized : ℕ → Bool
is_uninitialized n = nat_eq (n / 16777216) 6 || nat_eq (n / 16777216) 8

-- an object is among these
abbrev pub holds : ℕ → List ℕ → Bool
holds object [] = false
holds object (n ∷ ns) = nat_eq n object || holds object ns

-- another number takes the place of an object's
abbrev pub replaced : ℕ → ℕ → ℕ → ℕ
replaced object by n = number_replaced object by n

-- the own object is initialized with its replacement
abbrev pub flag_after : ℕ → Bool → Bool
flag_after object flag = if nat_eq object own_object then false else flag

-- the frame in which an object, of which a constructor has returned, is of a class
abbrev pub initialized : ℕ → ℕ → NumberedFrame → NumberedFrame
initialized object by f = record {
  locals = map (replaced object by) f.locals;
  stack = map (replaced object by) f.stack;
  flag = flag_after object f.flag;
}

-- the number was given to a class
abbrev pub IsClassNumber : Numbering → ℕ → Type 0
IsClassNumber s n = (name : List ℕ) × IsNumber s n (class name)
