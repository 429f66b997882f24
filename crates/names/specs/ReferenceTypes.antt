-- Reference types (JVMS 2.4): a class or an interface by the bytes of its name, or an array by the type of its
-- components.
use Rattle.std.specs.Prelude.{ℕ, ◌+◌, Bool, true, false, if◌then◌else◌, nat_eq, List, [], ◌∷◌, Option, Some, None, Result, Ok}
use Rattle.names.specs.declared.fault.NameFault.{NameFault}
use Rattle.names.specs.Names.{bracket}
use Rattle.names.specs.Descriptors.{FieldDescriptor, class, array, dimensions}
use Rattle.names.specs.Reading.{field_answer}

pub data ReferenceType : Type 0 where
  class_type : (name : List ℕ) → ReferenceType
  array_type : (component : FieldDescriptor) → ReferenceType

-- the same as a field's type
abbrev pub descriptor_of : ReferenceType → FieldDescriptor
descriptor_of (class_type name) = class name
descriptor_of (array_type component) = array component

-- the dimensions of an array, and none of a class
abbrev pub dimensions_of : ReferenceType → ℕ
dimensions_of (class_type name) = 0
dimensions_of (array_type component) = dimensions component + 1

abbrev pub is_class_type : ReferenceType → Bool
is_class_type (class_type name) = true
is_class_type (array_type component) = false

-- ---- the text of a Class constant (4.4.1): the name of a class, or the descriptor of an array

abbrev pub begins_array : List ℕ → Bool
begins_array [] = false
begins_array (b ∷ bytes) = nat_eq b bracket

abbrev pub array_of : Result FieldDescriptor NameFault → Option ReferenceType
array_of (Ok (array component)) = Some (array_type component)
array_of _ = None

abbrev pub reference_type : List ℕ → Option ReferenceType
reference_type text = if begins_array text then array_of (field_answer text) else Some (class_type text)
