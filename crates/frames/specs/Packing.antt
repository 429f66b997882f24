-- Types as slots, numbers of four bytes: a tag, and after it what tells types of one tag apart. The tags are those of
-- stack maps (JVMS 4.7.4), and 9 for arrays of primitive types.
use Rattle.std.specs.Prelude.{◌≡◌, ◌≢◌, ℕ, ◌+◌, ◌*◌, ◌&&◌, nat_lt, if◌then◌else◌, List, ◌++◌, map, reverse, Option, Some, None}
use Rattle.names.specs.declared.base.Primitive.{Primitive}
use Rattle.names.specs.declared.base.Primitive.TheVariants.{Byte, Char, Double, Float, Int, Long, Short, Boolean}
use Rattle.names.specs.Descriptors.{FieldDescriptor, primitive, class as class_type, array as array_type}
use Rattle.hierarchy.specs.Class.{ClassFact}
use Rattle.hierarchy.specs.Places.{place_in}
use Rattle.hierarchy.specs.Answer.{yes}
use Rattle.frames.specs.VerificationType.{VerificationType, top, int, float, long, double, null, class, array, uninit_this, uninit}
use Rattle.frames.specs.FrameFact.{FrameFact}
use Rattle.frames.specs.FrameAssignable.{item_answer}

-- the slot of each class that the hierarchy has not, and of each array of one
abbrev pub absent_slot : ℕ
absent_slot = 4294967295

-- a tag, a number of dimensions and two bytes more; what has no room there goes with absent classes
abbrev pub slot : ℕ → ℕ → ℕ → ℕ
slot tag dims rest = if nat_lt dims 256 && nat_lt rest 65536 then tag * 16777216 + dims * 65536 + rest else absent_slot

-- the number of a primitive type as the element of an array (JVMS 6.5, table 6.5.newarray-A)
abbrev pub element_code : Primitive → ℕ
element_code Boolean = 4
element_code Char = 5
element_code Float = 6
element_code Double = 7
element_code Byte = 8
element_code Short = 9
element_code Int = 10
element_code Long = 11

-- a class, or an array of so many dimensions of one, by its place
abbrev pub class_slot : ℕ → Option ℕ → ℕ
class_slot dims (Some place) = slot 7 dims place
class_slot dims None = absent_slot

-- an array: so many dimensions, and those of a type
abbrev pub array_slot : List ClassFact → ℕ → FieldDescriptor → ℕ
array_slot classes dims (primitive p) = slot 9 dims (element_code p)
array_slot classes dims (class_type name) = class_slot dims (place_in classes name)
array_slot classes dims (array_type component) = array_slot classes (dims + 1) component

abbrev pub slot_of : List ClassFact → VerificationType → ℕ
slot_of classes top = slot 0 0 0
slot_of classes int = slot 1 0 0
slot_of classes float = slot 2 0 0
slot_of classes double = slot 3 0 0
slot_of classes long = slot 4 0 0
slot_of classes null = slot 5 0 0
slot_of classes uninit_this = slot 6 0 0
slot_of classes (class name) = class_slot 0 (place_in classes name)
slot_of classes (uninit offset) = slot 8 0 offset
slot_of classes (array component) = array_slot classes 1 component

-- the types of a frame: the locals from 0 up, then the stack from the bottom up
abbrev pub types_of : FrameFact → List VerificationType
types_of f = f.locals ++ reverse f.stack

abbrev pub slots_of : List ClassFact → FrameFact → List ℕ
slots_of classes f = map (slot_of classes) (types_of f)

-- equal slots, that of absent classes aside, mean equal types
abbrev pub EqualSlotsAreEqualTypes : Type 0
EqualSlotsAreEqualTypes = (classes : List ClassFact) (s t : VerificationType) → slot_of classes s ≡ slot_of classes t
    → slot_of classes t ≢ absent_slot → s ≡ t

-- and so yes, in locals and on the stack
abbrev pub EqualSlotsAreYes : Type 0
EqualSlotsAreYes = (classes : List ClassFact) (s t : VerificationType) → slot_of classes s ≡ slot_of classes t
    → slot_of classes t ≢ absent_slot → item_answer classes s t ≡ yes
