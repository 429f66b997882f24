-- Typing rules of instructions that name constants (JVMS 4.10.1.9). A constant that an instruction may not name is
-- refused by wrong_constant (66).
use Rattle.std.specs.Prelude.{ℕ, Bool, true, false, not, ◌&&◌, ◌||◌, nat_lt, nat_eq, bytes_eq, if◌then◌else◌, List, [], ◌∷◌, Option, Some, None}
use Rattle.std.specs.Option.{option_and_then, option_map_or}
use Rattle.names.specs.declared.base.Primitive.{Primitive}
use Rattle.names.specs.Names.{less_than}
use Rattle.names.specs.Descriptors.{FieldDescriptor, primitive, field_width, method_width}
use Rattle.names.specs.ReferenceTypes.{ReferenceType, class_type, array_type, descriptor_of, dimensions_of, is_class_type}
use Rattle.names.specs.StandardNames.{object_name, init_name, string_name, class_name, method_type_name, method_handle_name}
use Rattle.pool.specs.Entries as entries
use Rattle.pool.specs.Entries.{Entry}
use Rattle.pool.specs.ConstantMeanings.{FieldConstant, MethodConstant, CallSite}
use Rattle.classfile.specs.Bootstraps.{has_bootstrap}
use Rattle.classfile.specs.Methods.{Method, is_own_field}
use Rattle.classfile.specs.Naming.{begins_with}
use Rattle.insn.specs.declared.kinds.Kind.TheVariants as kinds
use Rattle.insn.specs.Meanings.{Act}
use Rattle.frames.specs.VerificationType.{int, float, long, double, class, array}
use Rattle.frames.specs.Slots.{to_reference, descriptor_type}
use Rattle.rules.specs.ReasonNumbers.{wrong_constant}
use Rattle.rules.specs.TypingRules.{ExpectedType, number, own_or_assignable_to, TypingRule, pops, makes, constructs, calls_special, refuses, takes, gives, expected_class, assignable_to, sizes, expected_of, arguments_on, result_types, call_of, where_judged, where_allowed, where_bootstrapped}

-- ---- the bootstrap methods of Dynamic and InvokeDynamic constants (4.4.10, 4.7.23)

-- the number of its bootstrap method among those of the class
abbrev pub bootstrap_of : Entry → Option ℕ
bootstrap_of (entries.Dynamic bootstrap name) = Some bootstrap
bootstrap_of (entries.InvokeDynamic bootstrap name) = Some bootstrap
bootstrap_of _ = None

-- the class has a bootstrap method for the constant, which may be used; of a constant of another kind nothing is asked
abbrev pub is_bootstrapped : Method Act → Option Entry → Bool
is_bootstrapped m e = option_map_or (has_bootstrap m.constant_pool m.bootstraps) (option_and_then bootstrap_of e) true

-- ---- ldc, ldc_w and ldc2_w; a Dynamic constant has a type of its own

-- a value of a type that takes so many units
abbrev pub load_dynamic : ℕ → Bool → Option FieldDescriptor → TypingRule
load_dynamic units bootstrapped (Some type) =
    where_allowed (nat_eq (field_width type) units) (where_bootstrapped bootstrapped (gives (descriptor_type type)))
load_dynamic units bootstrapped None = refuses wrong_constant

abbrev pub load_constant : Method Act → Option FieldDescriptor → Option Entry → TypingRule
load_constant m type (Some (entries.Integer bits)) = gives int
load_constant m type (Some (entries.Float bits)) = gives float
load_constant m type (Some (entries.String text)) = gives (class string_name)
load_constant m type (Some (entries.Class name)) = gives (class class_name)
load_constant m type (Some (entries.MethodType descriptor)) = gives (class method_type_name)
load_constant m type (Some (entries.MethodHandle kind target)) = gives (class method_handle_name)
load_constant m type (Some (entries.Dynamic bootstrap name)) =
    where_judged m.dynamic (load_dynamic 1 (has_bootstrap m.constant_pool m.bootstraps bootstrap) type)
load_constant m type _ = refuses wrong_constant

abbrev pub load_wide_constant : Method Act → Option FieldDescriptor → Option Entry → TypingRule
load_wide_constant m type (Some (entries.Long high low)) = gives long
load_wide_constant m type (Some (entries.Double high low)) = gives double
load_wide_constant m type (Some (entries.Dynamic bootstrap name)) =
    where_judged m.dynamic (load_dynamic 2 (has_bootstrap m.constant_pool m.bootstraps bootstrap) type)
load_wide_constant m type _ = refuses wrong_constant

-- ---- fields

abbrev pub get_static : Option FieldConstant → TypingRule
get_static (Some f) = gives (descriptor_type f.type)
get_static None = refuses wrong_constant

abbrev pub put_static : Option FieldConstant → TypingRule
put_static (Some f) = takes (expected_of f.type ∷ [])
put_static None = refuses wrong_constant

abbrev pub get_field : Option FieldConstant → TypingRule
get_field (Some f) = pops (expected_class f.class ∷ []) (descriptor_type f.type ∷ []) [] true
get_field None = refuses wrong_constant

-- an instance initialization method may set fields that its class declares in its own object, before that is
-- initialized
abbrev pub target_of : Method Act → FieldConstant → ExpectedType
target_of m f = if m.is_init && is_own_field m f then own_or_assignable_to f.class else expected_class f.class

abbrev pub put_field : Method Act → Option FieldConstant → TypingRule
put_field m (Some f) = takes (expected_of f.type ∷ target_of m f ∷ [])
put_field m None = refuses wrong_constant

-- ---- calls

abbrev pub is_init_name : MethodConstant → Bool
is_init_name c = bytes_eq c.name init_name

-- invokestatic and invokespecial name methods of interfaces from version 52 on
abbrev pub may_name : ℕ → Bool → Bool
may_name major interface = not interface || nat_lt 51 major

-- with the receiver the arguments take at most 255 units (4.3.3)
abbrev pub has_room_for_receiver : MethodConstant → Bool
has_room_for_receiver c = nat_lt (method_width c.type false) 255

abbrev pub call_on : ReferenceType → MethodConstant → TypingRule
call_on receiver c = pops (arguments_on c.type.params (assignable_to receiver ∷ []))
    (result_types c.type.result) [] true

abbrev pub static_call : MethodConstant → TypingRule
static_call c = call_of c.type

abbrev pub invoke_static : ℕ → Option MethodConstant → TypingRule
invoke_static major (Some c) =
    where_allowed (is_class_type c.class && (not (is_init_name c) && may_name major c.interface)) (static_call c)
invoke_static major None = refuses wrong_constant

-- the class may be an array
abbrev pub invoke_virtual : Option MethodConstant → TypingRule
invoke_virtual (Some c) = where_allowed (not c.interface && (not (is_init_name c) && has_room_for_receiver c))
    (call_on c.class c)
invoke_virtual None = refuses wrong_constant

-- the count is the width of the arguments and the receiver
abbrev pub may_invoke_interface : ℕ → MethodConstant → Bool
may_invoke_interface count c =
    is_class_type c.class && (c.interface
    && (not (is_init_name c) && (has_room_for_receiver c && nat_eq count (method_width c.type true))))

abbrev pub invoke_interface : ℕ → Option MethodConstant → TypingRule
invoke_interface count (Some c) = where_allowed (may_invoke_interface count c) (call_on c.class c)
invoke_interface count None = refuses wrong_constant

abbrev pub constructor_call : MethodConstant → ReferenceType → TypingRule
constructor_call c (class_type name) =
    where_allowed (not c.interface && has_room_for_receiver c) (constructs name (arguments_on c.type.params []))
constructor_call c (array_type component) = refuses wrong_constant

abbrev pub special_call : ℕ → List ℕ → MethodConstant → TypingRule
special_call major me c =
    where_allowed (is_class_type c.class && (has_room_for_receiver c && may_name major c.interface))
    (calls_special c.class (arguments_on c.type.params (expected_class me ∷ [])) (result_types c.type.result))

abbrev pub invoke_special : ℕ → List ℕ → Option MethodConstant → TypingRule
invoke_special major me (Some c) = if is_init_name c then constructor_call c c.class else special_call major me c
invoke_special major me None = refuses wrong_constant

-- `<init>`, `<clinit>` and other names that begin with '<' are not those of a call site
abbrev pub is_special_name : CallSite → Bool
is_special_name c = begins_with less_than c.name

abbrev pub dynamic_call : Bool → Option CallSite → TypingRule
dynamic_call bootstrapped (Some c) =
    where_allowed (not (is_special_name c)) (where_bootstrapped bootstrapped (call_of c.type))
dynamic_call bootstrapped None = refuses wrong_constant

abbrev pub invoke_dynamic : Method Act → Bool → Option CallSite → TypingRule
invoke_dynamic m bootstrapped c = where_judged m.dynamic (dynamic_call bootstrapped c)

-- ---- objects and arrays

abbrev pub new_object : Option ReferenceType → TypingRule
new_object (Some (class_type name)) = makes name
new_object _ = refuses wrong_constant

abbrev pub new_array : Option Primitive → TypingRule
new_array (Some p) = pops (number kinds.Int ∷ []) (array (primitive p) ∷ []) [] true
new_array None = refuses wrong_constant

-- an array of elements of a type
abbrev pub new_reference_array : Option ReferenceType → TypingRule
new_reference_array (Some t) =
    where_allowed (nat_lt (dimensions_of t) 255) (pops (number kinds.Int ∷ []) (array (descriptor_of t) ∷ []) [] true)
new_reference_array None = refuses wrong_constant

abbrev pub new_multi_array : ℕ → Option ReferenceType → TypingRule
new_multi_array n (Some t) = where_allowed (nat_lt 0 n && not (nat_lt (dimensions_of t) n))
    (pops (sizes n) (to_reference t ∷ []) [] true)
new_multi_array n None = refuses wrong_constant

abbrev pub check_cast : Option ReferenceType → TypingRule
check_cast (Some t) = pops (expected_class object_name ∷ []) (to_reference t ∷ []) [] true
check_cast None = refuses wrong_constant

abbrev pub instance_of : Option ReferenceType → TypingRule
instance_of (Some t) = pops (expected_class object_name ∷ []) (int ∷ []) [] true
instance_of None = refuses wrong_constant
