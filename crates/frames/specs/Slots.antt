-- Types as they stand in locals and on the stack (JVMS 2.6.1, 2.6.2, 4.10.1.2).
use Rattle.std.specs.Prelude.{ℕ, ◌+◌, ◌-◌, Bool, true, false, if◌then◌else◌, List, [], ◌∷◌, ◌++◌, length, replicate}
use Rattle.names.specs.Descriptors.{FieldDescriptor, primitive, class as class_descriptor, array as array_descriptor}
use Rattle.names.specs.ReferenceTypes.{ReferenceType, class_type, array_type}
use Rattle.insn.specs.declared.kinds.Kind.{Kind}
use Rattle.insn.specs.declared.kinds.Kind.TheVariants.{Int, Long, Float, Double}
use Rattle.insn.specs.Kinds.{computed_as}
use Rattle.frames.specs.VerificationType.{VerificationType, top, int, float, long, double, null, class, array, uninit_this, uninit}
use Rattle.frames.specs.FrameAssignable.{width_of}

abbrev pub number_type : Kind → VerificationType
number_type Int = int
number_type Float = float
number_type Long = long
number_type Double = double

abbrev pub to_reference : ReferenceType → VerificationType
to_reference (class_type name) = class name
to_reference (array_type component) = array component

-- the type of what a field or parameter of a type holds
abbrev pub descriptor_type : FieldDescriptor → VerificationType
descriptor_type (primitive p) = number_type (computed_as p)
descriptor_type (class_descriptor name) = class name
descriptor_type (array_descriptor component) = array component

-- a long or a double, which takes two units
abbrev pub is_wide : VerificationType → Bool
is_wide top = false
is_wide int = false
is_wide float = false
is_wide long = true
is_wide double = true
is_wide null = false
is_wide (class name) = false
is_wide (array component) = false
is_wide uninit_this = false
is_wide (uninit offset) = false

-- how many units types take
abbrev pub units_of : List VerificationType → ℕ
units_of [] = 0
units_of (t ∷ ts) = width_of t + units_of ts

-- types as locals: a long or double is followed by top
abbrev pub in_locals : List VerificationType → List VerificationType
in_locals [] = []
in_locals (t ∷ ts) = if is_wide t then t ∷ top ∷ in_locals ts else t ∷ in_locals ts

-- so many locals, the first of these types and the others top
abbrev pub all_locals : ℕ → List VerificationType → List VerificationType
all_locals n ts = in_locals ts ++ replicate (n - length (in_locals ts)) top
