-- An instruction that leaves the locals as they are: by its typing rule, whatever the method.
use Rattle.std.proofs.Common.{◌≡◌, ℕ, Bool, true, false, Option, Some, None, not, ◌&&◌, nat_lt, nat_eq, [], ◌∷◌, refl, if◌then◌else◌}
use Rattle.names.specs.Descriptors.{FieldDescriptor, primitive, class as class_descriptor, array as array_descriptor, field_width}
use Rattle.names.specs.declared.base.Primitive.{Primitive}
use Rattle.names.specs.ReferenceTypes.{ReferenceType, is_class_type, descriptor_of, dimensions_of}
use Rattle.classfile.specs.Bootstraps.{has_bootstrap}
use Rattle.classfile.specs.Methods.{Method}
use Rattle.pool.specs.Entries as entries
use Rattle.pool.specs.Entries.{Entry}
use Rattle.pool.specs.ConstantMeanings.{FieldConstant, MethodConstant, CallSite, constant_at, class_at, field_at, method_at, dynamic_type_at, call_site_at}
use Rattle.insn.specs.declared.kinds.Kind.{Kind}
use Rattle.insn.specs.declared.kinds.Kind.TheVariants as kinds
use Rattle.insn.specs.Meanings as acts
use Rattle.insn.specs.Meanings.{Act}
use Rattle.insn.specs.Kinds.{same_kind, computed_as}
use Rattle.frames.specs.VerificationType.{array}
use Rattle.frames.specs.Slots.{to_reference, descriptor_type}
use Rattle.rules.specs.TypingRules.{TypingRule, number, pops, stores, makes, constructs, refuses, gives, sizes, call_of, where_judged, where_allowed, where_bootstrapped}
use Rattle.rules.specs.Constants.{is_bootstrapped, load_dynamic, load_constant, load_wide_constant, get_static, put_static, get_field, put_field, is_init_name, may_name, has_room_for_receiver, static_call, call_on, may_invoke_interface, invoke_static, invoke_virtual, invoke_interface, is_special_name, dynamic_call, invoke_dynamic, new_array, new_reference_array, new_multi_array, check_cast, instance_of}
use Rattle.rules.specs.Table.{typing_rule, leaves_with, return_number, return_reference, return_nothing}
use Rattle.rules.specs.Ways.{keeps_locals}

abbrev pub changes_none : TypingRule → Bool
changes_none (stores expected n width) = false
changes_none (makes name) = false
changes_none (constructs name expected_types) = false
changes_none _ = true

-- ---- typing rules that a constant or a result decides

allowed : (b : Bool) (p : TypingRule) → changes_none p ≡ true → changes_none (where_allowed b p) ≡ true
allowed true p e = e
allowed false p e = refl

judged : (b : Bool) (p : TypingRule) → changes_none p ≡ true → changes_none (where_judged b p) ≡ true
judged true p e = e
judged false p e = refl

bootstrapped : (b : Bool) (p : TypingRule) → changes_none p ≡ true → changes_none (where_bootstrapped b p) ≡ true
bootstrapped true p e = e
bootstrapped false p e = refl

computed_none : (units : ℕ) (b : Bool) (type : Option FieldDescriptor) → changes_none (load_dynamic units b type) ≡ true
computed_none units b None = refl
computed_none units b (Some type) =
    allowed (nat_eq (field_width type) units) (where_bootstrapped b (gives (descriptor_type type))) (bootstrapped b (gives (descriptor_type type)) refl)

by_bootstrap : (m : Method Act) (units bootstrap : ℕ) (type : Option FieldDescriptor)
    → changes_none (where_judged m.dynamic (load_dynamic units (has_bootstrap m.constant_pool m.bootstraps bootstrap) type)) ≡ true
by_bootstrap m units bootstrap type =
    let b = has_bootstrap m.constant_pool m.bootstraps bootstrap in
    judged m.dynamic (load_dynamic units b type) (computed_none units b type)

constant_none : (m : Method Act) (type : Option FieldDescriptor) (c : Option Entry) → changes_none (load_constant m type c) ≡ true
constant_none m type None = refl
constant_none m type (Some (entries.Utf8 text)) = refl
constant_none m type (Some (entries.Integer bits)) = refl
constant_none m type (Some (entries.Float bits)) = refl
constant_none m type (Some (entries.Long high low)) = refl
constant_none m type (Some (entries.Double high low)) = refl
constant_none m type (Some (entries.Class name)) = refl
constant_none m type (Some (entries.String text)) = refl
constant_none m type (Some (entries.Fieldref class name_and_type)) = refl
constant_none m type (Some (entries.Methodref class name_and_type)) = refl
constant_none m type (Some (entries.InterfaceMethodref class name_and_type)) = refl
constant_none m type (Some (entries.NameAndType name descriptor)) = refl
constant_none m type (Some (entries.MethodHandle kind reference)) = refl
constant_none m type (Some (entries.MethodType descriptor)) = refl
constant_none m type (Some (entries.Dynamic bootstrap name)) = by_bootstrap m 1 bootstrap type
constant_none m type (Some (entries.InvokeDynamic bootstrap name)) = refl
constant_none m type (Some entries.Unusable) = refl

wide_none : (m : Method Act) (type : Option FieldDescriptor) (c : Option Entry) → changes_none (load_wide_constant m type c) ≡ true
wide_none m type None = refl
wide_none m type (Some (entries.Utf8 text)) = refl
wide_none m type (Some (entries.Integer bits)) = refl
wide_none m type (Some (entries.Float bits)) = refl
wide_none m type (Some (entries.Long high low)) = refl
wide_none m type (Some (entries.Double high low)) = refl
wide_none m type (Some (entries.Class name)) = refl
wide_none m type (Some (entries.String text)) = refl
wide_none m type (Some (entries.Fieldref class name_and_type)) = refl
wide_none m type (Some (entries.Methodref class name_and_type)) = refl
wide_none m type (Some (entries.InterfaceMethodref class name_and_type)) = refl
wide_none m type (Some (entries.NameAndType name descriptor)) = refl
wide_none m type (Some (entries.MethodHandle kind reference)) = refl
wide_none m type (Some (entries.MethodType descriptor)) = refl
wide_none m type (Some (entries.Dynamic bootstrap name)) = by_bootstrap m 2 bootstrap type
wide_none m type (Some (entries.InvokeDynamic bootstrap name)) = refl
wide_none m type (Some entries.Unusable) = refl

number_none : (kind : Kind) (b : Bool) → changes_none (if b then leaves_with (number kind) else refuses 76) ≡ true
number_none kind true = refl
number_none kind false = refl

back_none : (kind : Kind) (t : Option FieldDescriptor) → changes_none (return_number t kind) ≡ true
back_none kind None = refl
back_none kind (Some (primitive p)) = number_none kind (same_kind (computed_as p) kind)
back_none kind (Some (class_descriptor name)) = refl
back_none kind (Some (array_descriptor component)) = refl

reference_none : (t : Option FieldDescriptor) → changes_none (return_reference t) ≡ true
reference_none None = refl
reference_none (Some (primitive p)) = refl
reference_none (Some (class_descriptor name)) = refl
reference_none (Some (array_descriptor component)) = refl

nothing_none : (t : Option FieldDescriptor) → changes_none (return_nothing t) ≡ true
nothing_none None = refl
nothing_none (Some t) = refl

get_static_none : (c : Option FieldConstant) → changes_none (get_static c) ≡ true
get_static_none None = refl
get_static_none (Some c) = refl

put_static_none : (c : Option FieldConstant) → changes_none (put_static c) ≡ true
put_static_none None = refl
put_static_none (Some c) = refl

get_none : (c : Option FieldConstant) → changes_none (get_field c) ≡ true
get_none None = refl
get_none (Some c) = refl

put_none : (m : Method Act) (c : Option FieldConstant) → changes_none (put_field m c) ≡ true
put_none m None = refl
put_none m (Some c) = refl

static_none : (major : ℕ) (c : Option MethodConstant) → changes_none (invoke_static major c) ≡ true
static_none major None = refl
static_none major (Some c) = allowed (is_class_type c.class && (not (is_init_name c) && may_name major c.interface)) (static_call c) refl

dynamic_none : (b : Bool) (c : Option CallSite) → changes_none (dynamic_call b c) ≡ true
dynamic_none b None = refl
dynamic_none b (Some c) = allowed (not (is_special_name c)) (where_bootstrapped b (call_of c.type)) (bootstrapped b (call_of c.type) refl)

site_none : (m : Method Act) (b : Bool) (c : Option CallSite) → changes_none (invoke_dynamic m b c) ≡ true
site_none m b c = judged m.dynamic (dynamic_call b c) (dynamic_none b c)

virtual_none : (c : Option MethodConstant) → changes_none (invoke_virtual c) ≡ true
virtual_none None = refl
virtual_none (Some c) = allowed (not c.interface && (not (is_init_name c) && has_room_for_receiver c)) (call_on c.class c) refl

interface_none : (count : ℕ) (c : Option MethodConstant) → changes_none (invoke_interface count c) ≡ true
interface_none count None = refl
interface_none count (Some c) = allowed (may_invoke_interface count c) (call_on c.class c) refl

array_none : (p : Option Primitive) → changes_none (new_array p) ≡ true
array_none None = refl
array_none (Some p) = refl

references_none : (t : Option ReferenceType) → changes_none (new_reference_array t) ≡ true
references_none None = refl
references_none (Some t) = allowed (nat_lt (dimensions_of t) 255) (pops (number kinds.Int ∷ []) (array (descriptor_of t) ∷ []) [] true) refl

multi_none : (n : ℕ) (t : Option ReferenceType) → changes_none (new_multi_array n t) ≡ true
multi_none n None = refl
multi_none n (Some t) = allowed (nat_lt 0 n && not (nat_lt (dimensions_of t) n)) (pops (sizes n) (to_reference t ∷ []) [] true) refl

cast_none : (t : Option ReferenceType) → changes_none (check_cast t) ≡ true
cast_none None = refl
cast_none (Some t) = refl

instance_none : (t : Option ReferenceType) → changes_none (instance_of t) ≡ true
instance_none None = refl
instance_none (Some t) = refl

-- ---- all instructions

pub by_typing_rule : (m : Method Act) (a : Act) → keeps_locals a ≡ true → changes_none (typing_rule m a) ≡ true
by_typing_rule m acts.Nothing e = refl
by_typing_rule m (acts.Constant kind) e = refl
by_typing_rule m acts.ConstantNull e = refl
by_typing_rule m (acts.LoadConstant i) e = constant_none m (dynamic_type_at m.constant_pool i) (constant_at m.constant_pool i)
by_typing_rule m (acts.LoadWideConstant i) e = wide_none m (dynamic_type_at m.constant_pool i) (constant_at m.constant_pool i)
by_typing_rule m (acts.Load kind n) e = refl
by_typing_rule m (acts.LoadReference n) e = refl
by_typing_rule m (acts.Store kind n) e = cc
by_typing_rule m (acts.StoreReference n) e = cc
by_typing_rule m (acts.Increment n) e = refl
by_typing_rule m (acts.Numeric operator) e = refl
by_typing_rule m (acts.Stack operator) e = refl
by_typing_rule m (acts.IfInt offset) e = refl
by_typing_rule m (acts.IfInts offset) e = refl
by_typing_rule m (acts.IfReferences offset) e = refl
by_typing_rule m (acts.IfNull offset) e = refl
by_typing_rule m (acts.Goto offset) e = refl
by_typing_rule m (acts.Switch default offsets) e = refl
by_typing_rule m (acts.Return kind) e = back_none kind m.type.result
by_typing_rule m acts.ReturnReference e = reference_none m.type.result
by_typing_rule m acts.ReturnVoid e = nothing_none m.type.result
by_typing_rule m (acts.GetStatic i) e = get_static_none (field_at m.constant_pool i)
by_typing_rule m (acts.PutStatic i) e = put_static_none (field_at m.constant_pool i)
by_typing_rule m (acts.GetField i) e = get_none (field_at m.constant_pool i)
by_typing_rule m (acts.PutField i) e = put_none m (field_at m.constant_pool i)
by_typing_rule m (acts.InvokeVirtual i) e = virtual_none (method_at m.constant_pool i)
by_typing_rule m (acts.InvokeSpecial i) e = cc
by_typing_rule m (acts.InvokeStatic i) e = static_none m.major_version (method_at m.constant_pool i)
by_typing_rule m (acts.InvokeInterface i count) e = interface_none count (method_at m.constant_pool i)
by_typing_rule m (acts.InvokeDynamic i) e = site_none m (is_bootstrapped m (constant_at m.constant_pool i)) (call_site_at m.constant_pool i)
by_typing_rule m (acts.New i) e = cc
by_typing_rule m (acts.LoadElement p) e = refl
by_typing_rule m (acts.StoreElement p) e = refl
by_typing_rule m acts.LoadReferenceElement e = refl
by_typing_rule m acts.StoreReferenceElement e = refl
by_typing_rule m acts.ArrayLength e = refl
by_typing_rule m (acts.NewArray element) e = array_none element
by_typing_rule m (acts.NewReferenceArray i) e = references_none (class_at m.constant_pool i)
by_typing_rule m (acts.NewMultiArray i n) e = multi_none n (class_at m.constant_pool i)
by_typing_rule m (acts.CheckCast i) e = cast_none (class_at m.constant_pool i)
by_typing_rule m (acts.InstanceOf i) e = instance_none (class_at m.constant_pool i)
by_typing_rule m acts.Throw e = refl
by_typing_rule m acts.Monitor e = refl
by_typing_rule m acts.Unsupported e = refl
