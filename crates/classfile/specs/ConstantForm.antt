-- The faults that an entry of the constant pool may have (JVMS 4.4.1 to 4.4.10), by its kind. A condition that needs an
-- entry which is itself refused for its indices does not hold.
use Rattle.std.specs.Prelude.{ℕ, Bool, false, not, ◌&&◌, ◌||◌, List, [], ◌∷◌, nat_lt}
use Rattle.names.specs.Names.{less_than}
use Rattle.pool.specs.Entries.{Entry, Utf8, Integer, Float, Long, Double, Class, String, Fieldref, Methodref, InterfaceMethodref, NameAndType, MethodHandle, MethodType, Dynamic, InvokeDynamic, Unusable}
use Rattle.classfile.specs.declared.form_fault.FormRule.TheVariants.{BadIndex, WrongKind, BadName, BadDescriptor}
use Rattle.classfile.specs.declared.indices.ConstantKind.TheVariants as kinds
use Rattle.classfile.specs.Conditions.{Condition}
use Rattle.classfile.specs.Indices.{is_bad, is_other, on_text, on_class_name, on_name_and_type}
use Rattle.classfile.specs.Naming.{begins_with, is_array_name, is_class_name, is_unqualified_name, is_method_name, is_init, is_field_descriptor, is_method_descriptor, fits_method}

-- ---- what an index leads to

-- a class or interface name, or the descriptor of an array (4.4.1)
abbrev pub names_class : List ℕ → Bool
names_class text = is_class_name text || (is_array_name text && is_field_descriptor text)

unfoldable pub is_no_class_name : List Entry → ℕ → Bool
is_no_class_name pool index = on_text pool index (λ t. not (names_class t))

unfoldable pub is_array_class : List Entry → ℕ → Bool
is_array_class pool index = on_class_name pool index is_array_name

unfoldable pub is_no_unqualified_name : List Entry → ℕ → Bool
is_no_unqualified_name pool index = on_text pool index (λ t. not (is_unqualified_name t))

-- the descriptor of neither a field nor a method
abbrev pub describes_nothing : List ℕ → Bool
describes_nothing text = not (is_field_descriptor text) && not (is_method_descriptor false text)

unfoldable pub is_no_descriptor : List Entry → ℕ → Bool
is_no_descriptor pool index = on_text pool index describes_nothing

unfoldable pub is_no_field_descriptor : List Entry → ℕ → Bool
is_no_field_descriptor pool index = on_text pool index (λ t. not (is_field_descriptor t))

unfoldable pub is_no_method_descriptor : List Entry → ℕ → Bool
is_no_method_descriptor pool index = on_text pool index (λ t. not (is_method_descriptor false t))

-- the same of a name and type
unfoldable pub is_no_field : List Entry → ℕ → Bool
is_no_field pool index = on_name_and_type pool index (λ x. not (is_field_descriptor x.descriptor))

unfoldable pub is_no_method : List Entry → ℕ → Bool
is_no_method pool index = on_name_and_type pool index (λ x. not (is_method_descriptor false x.descriptor))

-- `<init>` has no result (2.9.1)
unfoldable pub is_no_method_of_class : List Entry → ℕ → Bool
is_no_method_of_class pool index = on_name_and_type pool index (λ x. not (fits_method false x.name x.descriptor))

-- a name that begins with '<' and is not `<init>` (4.4.2)
abbrev pub is_special_name : List ℕ → Bool
is_special_name name = begins_with less_than name && not (is_init name)

unfoldable pub is_special : List Entry → ℕ → Bool
is_special pool index = on_name_and_type pool index (λ x. is_special_name x.name)

unfoldable pub is_no_method_name : List Entry → ℕ → Bool
is_no_method_name pool index = on_name_and_type pool index (λ x. not (is_method_name x.name))

-- ---- each kind of entry

abbrev pub class_conditions : List Entry → ℕ → List Condition
class_conditions pool name =
    (BadIndex, is_bad pool name) ∷ (WrongKind, is_other pool kinds.Utf8 name) ∷ (BadName, is_no_class_name pool name)
    ∷ []

-- 4.4.3
abbrev pub string_conditions : List Entry → ℕ → List Condition
string_conditions pool text = (BadIndex, is_bad pool text) ∷ (WrongKind, is_other pool kinds.Utf8 text) ∷ []

-- what a reference leads to: a class, and a name and type (4.4.2)
unfoldable pub has_bad : List Entry → ℕ → ℕ → Bool
has_bad pool class named = is_bad pool class || is_bad pool named

unfoldable pub has_other : List Entry → ℕ → ℕ → Bool
has_other pool class named = is_other pool kinds.Class class || is_other pool kinds.NameAndType named

-- the class has fields, so it is not an array
abbrev pub field_conditions : List Entry → ℕ → ℕ → List Condition
field_conditions pool class named =
    (BadIndex, has_bad pool class named)
    ∷ (WrongKind, has_other pool class named)
    ∷ (BadName, is_array_class pool class)
    ∷ (BadDescriptor, is_no_field pool named)
    ∷ []

abbrev pub method_conditions : List Entry → ℕ → ℕ → List Condition
method_conditions pool class named =
    (BadIndex, has_bad pool class named)
    ∷ (WrongKind, has_other pool class named)
    ∷ (BadName, is_special pool named)
    ∷ (BadDescriptor, is_no_method_of_class pool named)
    ∷ []

-- the class is an interface, so it is not an array
abbrev pub interface_method_conditions : List Entry → ℕ → ℕ → List Condition
interface_method_conditions pool class named =
    (BadIndex, has_bad pool class named)
    ∷ (WrongKind, has_other pool class named)
    ∷ (BadName, is_array_class pool class || is_no_method_name pool named)
    ∷ (BadDescriptor, is_no_method pool named)
    ∷ []

-- an unqualified name, and a descriptor of a field or a method (4.4.6)
unfoldable pub texts_have_bad : List Entry → ℕ → ℕ → Bool
texts_have_bad pool name descriptor = is_bad pool name || is_bad pool descriptor

unfoldable pub texts_have_other : List Entry → ℕ → ℕ → Bool
texts_have_other pool name descriptor = is_other pool kinds.Utf8 name || is_other pool kinds.Utf8 descriptor

abbrev pub name_and_type_conditions : List Entry → ℕ → ℕ → List Condition
name_and_type_conditions pool name descriptor =
    (BadIndex, texts_have_bad pool name descriptor)
    ∷ (WrongKind, texts_have_other pool name descriptor)
    ∷ (BadName, is_no_unqualified_name pool name)
    ∷ (BadDescriptor, is_no_descriptor pool descriptor)
    ∷ []

-- a field or a method of any kind (4.4.8); class files have such constants from major version 51 on (table 4.4-B)
abbrev pub method_handle_conditions : ℕ → List Entry → ℕ → List Condition
method_handle_conditions major pool reference =
    (BadIndex, is_bad pool reference) ∷ (WrongKind, is_other pool kinds.Reference reference || nat_lt major 51) ∷ []

-- 4.4.9; from major version 51 on (table 4.4-B)
abbrev pub method_type_conditions : ℕ → List Entry → ℕ → List Condition
method_type_conditions major pool descriptor =
    (BadIndex, is_bad pool descriptor)
    ∷ (WrongKind, is_other pool kinds.Utf8 descriptor || nat_lt major 51)
    ∷ (BadDescriptor, is_no_method_descriptor pool descriptor)
    ∷ []

-- a field's name and type; class files have such constants from major version 55 on (4.4.10, table 4.4-B)
abbrev pub dynamic_conditions : ℕ → List Entry → ℕ → List Condition
dynamic_conditions major pool named =
    (BadIndex, is_bad pool named)
    ∷ (WrongKind, is_other pool kinds.NameAndType named || nat_lt major 55)
    ∷ (BadDescriptor, is_no_field pool named)
    ∷ []

-- a method's name and type (4.4.10); from major version 51 on (table 4.4-B)
abbrev pub invoke_dynamic_conditions : ℕ → List Entry → ℕ → List Condition
invoke_dynamic_conditions major pool named =
    (BadIndex, is_bad pool named)
    ∷ (WrongKind, is_other pool kinds.NameAndType named || nat_lt major 51)
    ∷ (BadDescriptor, is_no_method pool named) ∷ []

-- texts were judged when they were read, and numbers are as they are
unfoldable pub constant_conditions : ℕ → List Entry → Entry → List Condition
constant_conditions major pool (Utf8 bytes) = []
constant_conditions major pool (Integer bits) = []
constant_conditions major pool (Float bits) = []
constant_conditions major pool (Long high low) = []
constant_conditions major pool (Double high low) = []
constant_conditions major pool (Class name) = class_conditions pool name
constant_conditions major pool (String text) = string_conditions pool text
constant_conditions major pool (Fieldref class named) = field_conditions pool class named
constant_conditions major pool (Methodref class named) = method_conditions pool class named
constant_conditions major pool (InterfaceMethodref class named) = interface_method_conditions pool class named
constant_conditions major pool (NameAndType name descriptor) = name_and_type_conditions pool name descriptor
constant_conditions major pool (MethodHandle kind reference) = method_handle_conditions major pool reference
constant_conditions major pool (MethodType descriptor) = method_type_conditions major pool descriptor
constant_conditions major pool (Dynamic bootstrap named) = dynamic_conditions major pool named
constant_conditions major pool (InvokeDynamic bootstrap named) = invoke_dynamic_conditions major pool named
constant_conditions major pool Unusable = []
