-- Verification types (JVMS 4.10.1.2), with class names as lists of bytes. An array has the type of its components, as a
-- field descriptor.
use Rattle.std.specs.Prelude.{ℕ, ◌-◌, List}
use Rattle.names.specs.Descriptors.{FieldDescriptor, base_of, dimensioned}
use Rattle.frames.specs.declared.vtype.VType.{VType}
use Rattle.frames.specs.declared.vtype.VType.TheVariants.{Top, Int, Float, Long, Double, Null, Class, Array, UninitThis, Uninit}

pub data VerificationType : Type 0 where
  top : VerificationType
  int : VerificationType
  float : VerificationType
  long : VerificationType
  double : VerificationType
  null : VerificationType
  class : List ℕ → VerificationType
  array : FieldDescriptor → VerificationType
  uninit_this : VerificationType
  uninit : ℕ → VerificationType

-- what a value of the program stands for
abbrev pub type_of : VType → VerificationType
type_of Top = top
type_of Int = int
type_of Float = float
type_of Long = long
type_of Double = double
type_of Null = null
type_of (Class name) = class name.now
type_of (Array dims base) = array (dimensioned (dims - 1) (base_of base))
type_of UninitThis = uninit_this
type_of (Uninit offset) = uninit offset
