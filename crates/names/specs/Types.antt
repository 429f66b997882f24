-- The meaning of the program's types.
use Rattle.std.specs.Prelude.{map}
use Rattle.std.specs.Option.{option_map}
use Rattle.names.specs.declared.descriptor.FieldType.{FieldType}
use Rattle.names.specs.declared.descriptor.MethodType.{MethodType}
use Rattle.names.specs.Descriptors.{FieldDescriptor, MethodDescriptor, base_of, dimensioned}

abbrev pub type_of : FieldType → FieldDescriptor
type_of f = dimensioned f.dims (base_of f.base)

abbrev pub method_of : MethodType → MethodDescriptor
method_of m = record { params = map type_of m.params.items; result = option_map type_of m.result }
