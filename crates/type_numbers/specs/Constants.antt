-- The constants of a class as its instructions name them, with types by their numbers (JVMS 4.4).
use Rattle.std.specs.Prelude.{◌≡◌, ℕ, Bool, bytes_eq, List, Option, Some, None, option_map, slice_index_or}
use Rattle.std.specs.Option.{option_and_then}
use Rattle.names.specs.Descriptors.{FieldDescriptor, MethodDescriptor}
use Rattle.names.specs.ReferenceTypes.{ReferenceType}
use Rattle.names.specs.Names.{less_than}
use Rattle.names.specs.StandardNames.{init_name, string_name, class_name, method_type_name, method_handle_name}
use Rattle.pool.specs.Entries as entries
use Rattle.pool.specs.Entries.{Entry}
use Rattle.pool.specs.ConstantMeanings.{FieldConstant, MethodConstant, CallSite, constant_at, class_at, field_at, method_at, dynamic_type_at, call_site_at}
use Rattle.classfile.specs.Naming.{begins_with}
use Rattle.frames.specs.VerificationType.{VerificationType, int, float, long, double, class}
use Rattle.frames.specs.Slots.{to_reference, descriptor_type}
use Rattle.type_numbers.specs.declared.constant_table.ConstantTable.{ConstantTable}
use Rattle.type_numbers.specs.declared.method_numbers.DescriptorNumbers.{DescriptorNumbers}
use Rattle.type_numbers.specs.declared.method_numbers.MethodNumbers.{MethodNumbers}
use Rattle.type_numbers.specs.declared.named_constant.NamedConstant.{NamedConstant}
use Rattle.type_numbers.specs.declared.named_constant.NamedConstant.TheVariants.{Other, Class, Field, Method, Loaded, Dynamic, Site}
use Rattle.type_numbers.specs.Numbers.{Numbering, IsNumberOf, Extends}
use Rattle.type_numbers.specs.MethodNumbers.{AreTypesOf, row_of}

-- ---- the parts of what a constant is

-- the number of the type that a Class names
abbrev pub class_number_of : NamedConstant → Option ℕ
class_number_of (Class n loaded) = Some n
class_number_of _ = None

-- the numbers of the class that a Fieldref names, and of what the field holds
abbrev pub field_class_of : NamedConstant → Option ℕ
field_class_of (Field n held) = Some n
field_class_of _ = None

abbrev pub field_held_of : NamedConstant → Option ℕ
field_held_of (Field n held) = Some held
field_held_of _ = None

-- whether a method is named by an InterfaceMethodref, whether its name is `<init>`, the number of its class, and the
-- types of its descriptor
abbrev pub method_interface_of : NamedConstant → Option Bool
method_interface_of (Method interface init n types) = Some interface
method_interface_of _ = None

abbrev pub method_init_of : NamedConstant → Option Bool
method_init_of (Method interface init n types) = Some init
method_init_of _ = None

abbrev pub method_class_of : NamedConstant → Option ℕ
method_class_of (Method interface init n types) = Some n
method_class_of _ = None

abbrev pub method_types_of : NamedConstant → Option MethodNumbers
method_types_of (Method interface init n types) = Some types
method_types_of _ = None

-- the number of the type that a constant loads by its kind
abbrev pub loaded_of : NamedConstant → Option ℕ
loaded_of (Class n loaded) = Some loaded
loaded_of (Loaded loaded) = Some loaded
loaded_of _ = None

-- the number of the type that the constant of a Dynamic has
abbrev pub computed_of : NamedConstant → Option ℕ
computed_of (Dynamic held) = Some held
computed_of _ = None

-- whether the name of an InvokeDynamic begins with '<', and the types of its descriptor
abbrev pub site_special_of : NamedConstant → Option Bool
site_special_of (Site special types) = Some special
site_special_of _ = None

abbrev pub site_types_of : NamedConstant → Option MethodNumbers
site_types_of (Site special types) = Some types
site_types_of _ = None

-- ---- what these parts say of a constant

abbrev pub field_class : FieldConstant → VerificationType
field_class f = class f.class

abbrev pub field_held : FieldConstant → VerificationType
field_held f = descriptor_type f.type

abbrev pub method_interface : MethodConstant → Bool
method_interface m = m.interface

-- it is an instance initialization method by its name (JVMS 2.9.1)
abbrev pub method_init : MethodConstant → Bool
method_init m = bytes_eq m.name init_name

-- the class may be an array
abbrev pub method_class : MethodConstant → VerificationType
method_class m = to_reference m.class

abbrev pub method_type : MethodConstant → MethodDescriptor
method_type m = m.type

-- it is none that may be called
abbrev pub site_special : CallSite → Bool
site_special c = begins_with less_than c.name

abbrev pub site_type : CallSite → MethodDescriptor
site_type c = c.type

-- ---- the type that `ldc`, `ldc_w` or `ldc2_w` loads, by the kind of the constant (JVMS 4.4, 4.10.1.9); a Dynamic has
-- a type of its own

abbrev pub loaded_type : Entry → Option VerificationType
loaded_type (entries.Integer bits) = Some int
loaded_type (entries.Float bits) = Some float
loaded_type (entries.Long high low) = Some long
loaded_type (entries.Double high low) = Some double
loaded_type (entries.Class name) = Some (class class_name)
loaded_type (entries.String text) = Some (class string_name)
loaded_type (entries.MethodType descriptor) = Some (class method_type_name)
loaded_type (entries.MethodHandle kind reference) = Some (class method_handle_name)
loaded_type _ = None

abbrev pub loaded_at : List Entry → ℕ → Option VerificationType
loaded_at pool index = option_and_then loaded_type (constant_at pool index)

-- ---- the meaning of a constant to the instructions that name it

pub record Meaning : Type 0 where
  pub class : Option ReferenceType
  pub field : Option FieldConstant
  pub method : Option MethodConstant
  pub loaded : Option VerificationType
  pub computed : Option FieldDescriptor
  pub site : Option CallSite

-- the constant at an index of a pool
abbrev pub meaning_at : List Entry → ℕ → Meaning
meaning_at pool index = record {
  class = class_at pool index;
  field = field_at pool index;
  method = method_at pool index;
  loaded = loaded_at pool index;
  computed = dynamic_type_at pool index;
  site = call_site_at pool index;
}

-- this is what a constant of the meaning is, where the row holds the arguments of the descriptors
pub record IsDescribed (s : Numbering) (row : List ℕ) (m : Meaning) (c : NamedConstant) : Type 0 where
  pub class : IsNumberOf s (class_number_of c) (option_map to_reference m.class)
  pub field_class : IsNumberOf s (field_class_of c) (option_map field_class m.field)
  pub field_held : IsNumberOf s (field_held_of c) (option_map field_held m.field)
  pub method_interface : method_interface_of c ≡ option_map method_interface m.method
  pub method_init : method_init_of c ≡ option_map method_init m.method
  pub method_class : IsNumberOf s (method_class_of c) (option_map method_class m.method)
  pub method_types : AreTypesOf s row (method_types_of c) (option_map method_type m.method)
  pub loaded : IsNumberOf s (loaded_of c) m.loaded
  pub computed : IsNumberOf s (computed_of c) (option_map descriptor_type m.computed)
  pub site_special : site_special_of c ≡ option_map site_special m.site
  pub site : AreTypesOf s row (site_types_of c) (option_map site_type m.site)

-- ---- tables

-- the constant at an index of a list, in which the first has index 0
abbrev pub constant_in : List NamedConstant → ℕ → NamedConstant
constant_in constants index = slice_index_or constants index Other

-- the constants that a table has, by their indices
abbrev pub constants_of : ConstantTable → List NamedConstant
constants_of t = t.constants.items

-- the descriptors of methods that were read for it, and the row that they share
abbrev pub descriptors_of : ConstantTable → DescriptorNumbers
descriptors_of t = t.descriptors

abbrev pub arguments_of : ConstantTable → List ℕ
arguments_of t = row_of (descriptors_of t)

-- the table says of each index what the constant there is
abbrev pub IsTable : Numbering → List Entry → ConstantTable → Type 0
IsTable s pool t = (index : ℕ)
    → IsDescribed s (arguments_of t) (meaning_at pool index) (constant_in (constants_of t) index)

-- and goes on saying so where more types have numbers
abbrev pub TablesStay : Type 0
TablesStay = (old new : Numbering) (pool : List Entry) (t : ConstantTable) → Extends old new → IsTable old pool t
    → IsTable new pool t
