-- The meaning of the reference types that a program keeps.
use Rattle.std.specs.Prelude.{◌-◌, Option, Some, None}
use Rattle.names.specs.declared.references.RefType.{RefType}
use Rattle.names.specs.declared.references.RefType.TheVariants.{Class, Array}
use Rattle.names.specs.Descriptors.{FieldDescriptor, primitive, class, array, base_of, dimensioned}
use Rattle.names.specs.ReferenceTypes.{ReferenceType, class_type, array_type}

abbrev pub reference_view : RefType → ReferenceType
reference_view (Class name) = class_type name.now
reference_view (Array dims base) = array_type (dimensioned (dims - 1) (base_of base))

-- the type of the references that a field of a type holds, if it holds references
abbrev pub referred_by : FieldDescriptor → Option ReferenceType
referred_by (primitive p) = None
referred_by (class name) = Some (class_type name)
referred_by (array component) = Some (array_type component)
