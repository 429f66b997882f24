-- Where the typing rule of an instruction goes: as its act says, whatever the method. And the numbers by which
-- it refuses an instruction in each frame.
use Rattle.std.proofs.Common.{◌≡◌, ◌∙◌, ℕ, Bool, true, false, List, [], ◌∷◌, Option, Some, None, refl, sym, if◌then◌else◌}
use Rattle.names.specs.declared.base.Primitive.{Primitive}
use Rattle.names.specs.Descriptors.{FieldDescriptor, MethodDescriptor, primitive, class as class_descriptor, array as array_descriptor, field_width}
use Rattle.std.specs.Prelude.{nat_lt, nat_eq, not, ◌&&◌, ◌||◌}
use Rattle.names.specs.ReferenceTypes.{ReferenceType, class_type, array_type, descriptor_of, dimensions_of}
use Rattle.classfile.specs.Bootstraps.{has_bootstrap}
use Rattle.classfile.specs.Methods.{Method}
use Rattle.pool.specs.Entries as entries
use Rattle.pool.specs.Entries.{Entry}
use Rattle.pool.specs.ConstantMeanings.{constant_at, class_at, FieldConstant, field_at, MethodConstant, method_at, dynamic_type_at, CallSite, call_site_at}
use Rattle.insn.specs.declared.kinds.Kind.{Kind}
use Rattle.insn.specs.declared.kinds.Kind.TheVariants.{Int}
use Rattle.frames.specs.VerificationType.{array}
use Rattle.frames.specs.Slots.{to_reference, descriptor_type}
use Rattle.insn.specs.Meanings as acts
use Rattle.insn.specs.Meanings.{Act}
use Rattle.insn.specs.Kinds.{same_kind, computed_as}
use Rattle.rules.specs.TypingRules.{TypingRule, pops, makes, constructs, calls_special, sizes, number, refuses, falls, offsets_of, where_judged, where_allowed, where_bootstrapped, call_of, gives, arguments_on, expected_class, result_types}
use Rattle.rules.specs.Constants.{is_bootstrapped, load_dynamic, load_constant, load_wide_constant, get_static, put_static, get_field, put_field, invoke_static, invoke_virtual, invoke_interface, static_call, call_on, may_invoke_interface, new_array, new_reference_array, new_multi_array, check_cast, instance_of, is_init_name, constructor_call, special_call, invoke_special, is_special_name, dynamic_call, invoke_dynamic, new_object}
use Rattle.rules.specs.Table.{typing_rule, return_number, return_reference, return_nothing, leaves_with}
use Rattle.rules.specs.Ways.{goes_on, branch_offsets}

-- 60, 66, 76 and 90: of an instruction that has no rule, of its constant, and of its kind of return
abbrev pub is_of_table : ℕ → Bool
is_of_table n = nat_eq n 60 || (nat_eq n 66 || (nat_eq n 76 || nat_eq n 90))

-- where a typing rule refuses by itself, it does so by one of these numbers
abbrev pub is_else : TypingRule → Bool
is_else (refuses n) = is_of_table n
is_else _ = true

-- a typing rule that goes on and branches nowhere
pub record GoesOn (p : TypingRule) : Type 0 where
  pub falls_on : falls p ≡ true
  pub nowhere : offsets_of p ≡ []
  pub elsewise : is_else p ≡ true

-- the typing rule of an act goes on and branches as the act does
pub record WayOf (a : Act) (p : TypingRule) : Type 0 where
  pub falls_on : goes_on a ≡ falls p
  pub branches : branch_offsets a ≡ offsets_of p
  pub elsewise : is_else p ≡ true

on : (p : TypingRule) → falls p ≡ true → offsets_of p ≡ [] → is_else p ≡ true → GoesOn p
on p e n o = record { falls_on = e; nowhere = n; elsewise = o }

plain : (a : Act) (p : TypingRule) → goes_on a ≡ true → branch_offsets a ≡ [] → GoesOn p → WayOf a p
plain a p e b g = record { falls_on = e ∙ sym g.falls_on; branches = b ∙ sym g.nowhere; elsewise = g.elsewise }

direct : (a : Act) (p : TypingRule) → goes_on a ≡ falls p → branch_offsets a ≡ offsets_of p → is_else p ≡ true → WayOf a p
direct a p e b o = record { falls_on = e; branches = b; elsewise = o }

-- ---- constants

allowed : (b : Bool) (p : TypingRule) → GoesOn p → GoesOn (where_allowed b p)
allowed true p g = g
allowed false p g = on (refuses 66) refl refl refl

judged : (b : Bool) (p : TypingRule) → GoesOn p → GoesOn (where_judged b p)
judged true p g = g
judged false p g = on (refuses 60) refl refl refl

bootstrapped : (b : Bool) (p : TypingRule) → GoesOn p → GoesOn (where_bootstrapped b p)
bootstrapped true p g = g
bootstrapped false p g = on (refuses 90) refl refl refl

computed : (units : ℕ) (b : Bool) (type : Option FieldDescriptor) → GoesOn (load_dynamic units b type)
computed units b None = on (refuses 66) refl refl refl
computed units b (Some type) =
    allowed (nat_eq (field_width type) units) (where_bootstrapped b (gives (descriptor_type type)))
    (bootstrapped b (gives (descriptor_type type)) (record { falls_on = refl; nowhere = refl; elsewise = refl }))

by_bootstrap : (m : Method Act) (units bootstrap : ℕ) (type : Option FieldDescriptor)
    → GoesOn (where_judged m.dynamic (load_dynamic units (has_bootstrap m.constant_pool m.bootstraps bootstrap) type))
by_bootstrap m units bootstrap type =
    let b = has_bootstrap m.constant_pool m.bootstraps bootstrap in
    judged m.dynamic (load_dynamic units b type) (computed units b type)

loaded : (m : Method Act) (type : Option FieldDescriptor) (c : Option Entry) → GoesOn (load_constant m type c)
loaded m type None = on (load_constant m type None) refl refl refl
loaded m type (Some (entries.Utf8 text)) = on (load_constant m type (Some (entries.Utf8 text))) refl refl refl
loaded m type (Some (entries.Integer bits)) = on (load_constant m type (Some (entries.Integer bits))) refl refl refl
loaded m type (Some (entries.Float bits)) = on (load_constant m type (Some (entries.Float bits))) refl refl refl
loaded m type (Some (entries.Long high low)) = on (load_constant m type (Some (entries.Long high low))) refl refl refl
loaded m type (Some (entries.Double high low)) = on (load_constant m type (Some (entries.Double high low))) refl refl refl
loaded m type (Some (entries.Class name)) = on (load_constant m type (Some (entries.Class name))) refl refl refl
loaded m type (Some (entries.String text)) = on (load_constant m type (Some (entries.String text))) refl refl refl
loaded m type (Some (entries.Fieldref class name_and_type)) = on (load_constant m type (Some (entries.Fieldref class name_and_type))) refl refl refl
loaded m type (Some (entries.Methodref class name_and_type)) = on (load_constant m type (Some (entries.Methodref class name_and_type))) refl refl refl
loaded m type (Some (entries.InterfaceMethodref class name_and_type)) = on (load_constant m type (Some (entries.InterfaceMethodref class name_and_type))) refl refl refl
loaded m type (Some (entries.NameAndType name descriptor)) = on (load_constant m type (Some (entries.NameAndType name descriptor))) refl refl refl
loaded m type (Some (entries.MethodHandle kind reference)) = on (load_constant m type (Some (entries.MethodHandle kind reference))) refl refl refl
loaded m type (Some (entries.MethodType descriptor)) = on (load_constant m type (Some (entries.MethodType descriptor))) refl refl refl
loaded m type (Some (entries.Dynamic bootstrap name)) = by_bootstrap m 1 bootstrap type
loaded m type (Some (entries.InvokeDynamic bootstrap name)) = on (load_constant m type (Some (entries.InvokeDynamic bootstrap name))) refl refl refl
loaded m type (Some entries.Unusable) = on (load_constant m type (Some entries.Unusable)) refl refl refl

loaded_wide : (m : Method Act) (type : Option FieldDescriptor) (c : Option Entry) → GoesOn (load_wide_constant m type c)
loaded_wide m type None = on (load_wide_constant m type None) refl refl refl
loaded_wide m type (Some (entries.Utf8 text)) = on (load_wide_constant m type (Some (entries.Utf8 text))) refl refl refl
loaded_wide m type (Some (entries.Integer bits)) = on (load_wide_constant m type (Some (entries.Integer bits))) refl refl refl
loaded_wide m type (Some (entries.Float bits)) = on (load_wide_constant m type (Some (entries.Float bits))) refl refl refl
loaded_wide m type (Some (entries.Long high low)) = on (load_wide_constant m type (Some (entries.Long high low))) refl refl refl
loaded_wide m type (Some (entries.Double high low)) = on (load_wide_constant m type (Some (entries.Double high low))) refl refl refl
loaded_wide m type (Some (entries.Class name)) = on (load_wide_constant m type (Some (entries.Class name))) refl refl refl
loaded_wide m type (Some (entries.String text)) = on (load_wide_constant m type (Some (entries.String text))) refl refl refl
loaded_wide m type (Some (entries.Fieldref class name_and_type)) = on (load_wide_constant m type (Some (entries.Fieldref class name_and_type))) refl refl refl
loaded_wide m type (Some (entries.Methodref class name_and_type)) = on (load_wide_constant m type (Some (entries.Methodref class name_and_type))) refl refl refl
loaded_wide m type (Some (entries.InterfaceMethodref class name_and_type)) = on (load_wide_constant m type (Some (entries.InterfaceMethodref class name_and_type))) refl refl refl
loaded_wide m type (Some (entries.NameAndType name descriptor)) = on (load_wide_constant m type (Some (entries.NameAndType name descriptor))) refl refl refl
loaded_wide m type (Some (entries.MethodHandle kind reference)) = on (load_wide_constant m type (Some (entries.MethodHandle kind reference))) refl refl refl
loaded_wide m type (Some (entries.MethodType descriptor)) = on (load_wide_constant m type (Some (entries.MethodType descriptor))) refl refl refl
loaded_wide m type (Some (entries.Dynamic bootstrap name)) = by_bootstrap m 2 bootstrap type
loaded_wide m type (Some (entries.InvokeDynamic bootstrap name)) = on (load_wide_constant m type (Some (entries.InvokeDynamic bootstrap name))) refl refl refl
loaded_wide m type (Some entries.Unusable) = on (load_wide_constant m type (Some entries.Unusable)) refl refl refl

-- ---- fields

get_static_on : (o : Option FieldConstant) → GoesOn (get_static o)
get_static_on None = on (get_static None) refl refl refl
get_static_on (Some c) = on (get_static (Some c)) refl refl refl

put_static_on : (o : Option FieldConstant) → GoesOn (put_static o)
put_static_on None = on (put_static None) refl refl refl
put_static_on (Some c) = on (put_static (Some c)) refl refl refl

get_field_on : (o : Option FieldConstant) → GoesOn (get_field o)
get_field_on None = on (get_field None) refl refl refl
get_field_on (Some c) = on (get_field (Some c)) refl refl refl

put_field_on : (m : Method Act) (o : Option FieldConstant) → GoesOn (put_field m o)
put_field_on m None = on (put_field m None) refl refl refl
put_field_on m (Some c) = on (put_field m (Some c)) refl refl refl

-- ---- calls

call_goes : (t : ReferenceType) (c : MethodConstant) → GoesOn (call_on t c)
call_goes t c = record { falls_on = refl; nowhere = refl; elsewise = refl }

static_goes : (t : MethodDescriptor) → GoesOn (call_of t)
static_goes t = record { falls_on = refl; nowhere = refl; elsewise = refl }

static_on : (major : ℕ) (o : Option MethodConstant) → GoesOn (invoke_static major o)
static_on major None = on (invoke_static major None) refl refl refl
static_on major (Some c) = allowed _ (static_call c) (static_goes c.type)

site_goes : (b : Bool) (o : Option CallSite) → GoesOn (dynamic_call b o)
site_goes b None = on (refuses 66) refl refl refl
site_goes b (Some c) = allowed (not (is_special_name c)) (where_bootstrapped b (call_of c.type)) (bootstrapped b (call_of c.type) (static_goes c.type))

site_on : (m : Method Act) (b : Bool) (o : Option CallSite) → GoesOn (invoke_dynamic m b o)
site_on m b o = judged m.dynamic (dynamic_call b o) (site_goes b o)

virtual_on : (o : Option MethodConstant) → GoesOn (invoke_virtual o)
virtual_on None = on (invoke_virtual None) refl refl refl
virtual_on (Some c) = allowed _ (call_on c.class c) (call_goes c.class c)

interface_on : (count : ℕ) (o : Option MethodConstant) → GoesOn (invoke_interface count o)
interface_on count None = on (invoke_interface count None) refl refl refl
interface_on count (Some c) = allowed (may_invoke_interface count c) (call_on c.class c) (call_goes c.class c)

either : (b : Bool) (p q : TypingRule) → GoesOn p → GoesOn q → GoesOn (if b then p else q)
either true p q x y = x
either false p q x y = y

constructor_on : (c : MethodConstant) (t : ReferenceType) → GoesOn (constructor_call c t)
constructor_on c (class_type name) = allowed _ (constructs name (arguments_on c.type.params [])) (record { falls_on = refl; nowhere = refl; elsewise = refl })
constructor_on c (array_type component) = on (refuses 66) refl refl refl

special_on : (major : ℕ) (me : List ℕ) (o : Option MethodConstant) → GoesOn (invoke_special major me o)
special_on major me None = on (refuses 66) refl refl refl
special_on major me (Some c) =
    either (is_init_name c) (constructor_call c c.class) (special_call major me c) (constructor_on c c.class)
    (allowed _ (calls_special c.class (arguments_on c.type.params (expected_class me ∷ [])) (result_types c.type.result)) (record { falls_on = refl; nowhere = refl; elsewise = refl }))

-- ---- objects, arrays and casts

new_on : (o : Option ReferenceType) → GoesOn (new_object o)
new_on None = on (refuses 66) refl refl refl
new_on (Some (class_type name)) = on (makes name) refl refl refl
new_on (Some (array_type component)) = on (refuses 66) refl refl refl

array_on : (o : Option Primitive) → GoesOn (new_array o)
array_on None = on (new_array None) refl refl refl
array_on (Some p) = on (new_array (Some p)) refl refl refl

references_on : (o : Option ReferenceType) → GoesOn (new_reference_array o)
references_on None = on (new_reference_array None) refl refl refl
references_on (Some t) =
    allowed (nat_lt (dimensions_of t) 255) (pops (number Int ∷ []) (array (descriptor_of t) ∷ []) [] true) (record { falls_on = refl; nowhere = refl; elsewise = refl })

multi_on : (n : ℕ) (o : Option ReferenceType) → GoesOn (new_multi_array n o)
multi_on n None = on (new_multi_array n None) refl refl refl
multi_on n (Some t) =
    allowed (nat_lt 0 n && not (nat_lt (dimensions_of t) n)) (pops (sizes n) (to_reference t ∷ []) [] true) (record { falls_on = refl; nowhere = refl; elsewise = refl })

cast_on : (o : Option ReferenceType) → GoesOn (check_cast o)
cast_on None = on (check_cast None) refl refl refl
cast_on (Some t) = on (check_cast (Some t)) refl refl refl

instance_on : (o : Option ReferenceType) → GoesOn (instance_of o)
instance_on None = on (instance_of None) refl refl refl
instance_on (Some t) = on (instance_of (Some t)) refl refl refl

-- ---- returns

number_way : (kind : Kind) (b : Bool) → WayOf (acts.Return kind) (if b then leaves_with (number kind) else refuses 76)
number_way kind true = direct (acts.Return kind) (leaves_with (number kind)) refl refl refl
number_way kind false = direct (acts.Return kind) (refuses 76) refl refl refl

return_way : (kind : Kind) (t : Option FieldDescriptor) → WayOf (acts.Return kind) (return_number t kind)
return_way kind None = number_way kind false
return_way kind (Some (primitive p)) = number_way kind (same_kind (computed_as p) kind)
return_way kind (Some (class_descriptor name)) = number_way kind false
return_way kind (Some (array_descriptor component)) = number_way kind false

reference_way : (t : Option FieldDescriptor) → WayOf acts.ReturnReference (return_reference t)
reference_way None = direct acts.ReturnReference (refuses 76) refl refl refl
reference_way (Some (primitive p)) = direct acts.ReturnReference (refuses 76) refl refl refl
reference_way (Some (class_descriptor name)) = direct acts.ReturnReference (return_reference (Some (class_descriptor name))) refl refl refl
reference_way (Some (array_descriptor component)) = direct acts.ReturnReference (return_reference (Some (array_descriptor component))) refl refl refl

nothing_way : (t : Option FieldDescriptor) → WayOf acts.ReturnVoid (return_nothing t)
nothing_way None = direct acts.ReturnVoid (return_nothing None) refl refl refl
nothing_way (Some t) = direct acts.ReturnVoid (refuses 76) refl refl refl

-- ---- all acts

at_once : (m : Method Act) (a : Act) → goes_on a ≡ falls (typing_rule m a) → branch_offsets a ≡ offsets_of (typing_rule m a)
    → is_else (typing_rule m a) ≡ true → WayOf a (typing_rule m a)
at_once m a e b o = direct a (typing_rule m a) e b o

pub way_of : (m : Method Act) (a : Act) → WayOf a (typing_rule m a)
way_of m acts.Nothing = at_once m acts.Nothing refl refl refl
way_of m (acts.Constant kind) = at_once m (acts.Constant kind) refl refl refl
way_of m acts.ConstantNull = at_once m acts.ConstantNull refl refl refl
way_of m (acts.Load kind n) = at_once m (acts.Load kind n) refl refl refl
way_of m (acts.LoadReference n) = at_once m (acts.LoadReference n) refl refl refl
way_of m (acts.Store kind n) = at_once m (acts.Store kind n) refl refl refl
way_of m (acts.StoreReference n) = at_once m (acts.StoreReference n) refl refl refl
way_of m (acts.Increment n) = at_once m (acts.Increment n) refl refl refl
way_of m (acts.Numeric operator) = at_once m (acts.Numeric operator) refl refl refl
way_of m (acts.Stack operator) = at_once m (acts.Stack operator) refl refl refl
way_of m (acts.IfInt offset) = at_once m (acts.IfInt offset) refl refl refl
way_of m (acts.IfInts offset) = at_once m (acts.IfInts offset) refl refl refl
way_of m (acts.IfReferences offset) = at_once m (acts.IfReferences offset) refl refl refl
way_of m (acts.IfNull offset) = at_once m (acts.IfNull offset) refl refl refl
way_of m (acts.Goto offset) = at_once m (acts.Goto offset) refl refl refl
way_of m (acts.Switch default offsets) = at_once m (acts.Switch default offsets) refl refl refl
way_of m (acts.LoadElement p) = at_once m (acts.LoadElement p) refl refl refl
way_of m (acts.StoreElement p) = at_once m (acts.StoreElement p) refl refl refl
way_of m acts.LoadReferenceElement = at_once m acts.LoadReferenceElement refl refl refl
way_of m acts.StoreReferenceElement = at_once m acts.StoreReferenceElement refl refl refl
way_of m acts.ArrayLength = at_once m acts.ArrayLength refl refl refl
way_of m acts.Throw = at_once m acts.Throw refl refl refl
way_of m acts.Monitor = at_once m acts.Monitor refl refl refl
way_of m acts.Unsupported = at_once m acts.Unsupported refl refl refl
way_of m (acts.LoadConstant i) =
    plain (acts.LoadConstant i) (load_constant m (dynamic_type_at m.constant_pool i) (constant_at m.constant_pool i)) refl refl
    (loaded m (dynamic_type_at m.constant_pool i) (constant_at m.constant_pool i))
way_of m (acts.LoadWideConstant i) =
    plain (acts.LoadWideConstant i) (load_wide_constant m (dynamic_type_at m.constant_pool i) (constant_at m.constant_pool i)) refl refl
    (loaded_wide m (dynamic_type_at m.constant_pool i) (constant_at m.constant_pool i))
way_of m (acts.GetStatic i) = plain (acts.GetStatic i) (get_static (field_at m.constant_pool i)) refl refl (get_static_on (field_at m.constant_pool i))
way_of m (acts.PutStatic i) = plain (acts.PutStatic i) (put_static (field_at m.constant_pool i)) refl refl (put_static_on (field_at m.constant_pool i))
way_of m (acts.GetField i) = plain (acts.GetField i) (get_field (field_at m.constant_pool i)) refl refl (get_field_on (field_at m.constant_pool i))
way_of m (acts.PutField i) = plain (acts.PutField i) (put_field m (field_at m.constant_pool i)) refl refl (put_field_on m (field_at m.constant_pool i))
way_of m (acts.InvokeVirtual i) = plain (acts.InvokeVirtual i) (invoke_virtual (method_at m.constant_pool i)) refl refl (virtual_on (method_at m.constant_pool i))
way_of m (acts.InvokeStatic i) = plain (acts.InvokeStatic i) (invoke_static m.major_version (method_at m.constant_pool i)) refl refl (static_on m.major_version (method_at m.constant_pool i))
way_of m (acts.InvokeInterface i count) = plain (acts.InvokeInterface i count) (invoke_interface count (method_at m.constant_pool i)) refl refl (interface_on count (method_at m.constant_pool i))
way_of m (acts.InvokeDynamic i) =
    plain (acts.InvokeDynamic i) (invoke_dynamic m (is_bootstrapped m (constant_at m.constant_pool i)) (call_site_at m.constant_pool i)) refl refl
    (site_on m (is_bootstrapped m (constant_at m.constant_pool i)) (call_site_at m.constant_pool i))
way_of m (acts.NewArray element) = plain (acts.NewArray element) (new_array element) refl refl (array_on element)
way_of m (acts.NewReferenceArray i) = plain (acts.NewReferenceArray i) (new_reference_array (class_at m.constant_pool i)) refl refl (references_on (class_at m.constant_pool i))
way_of m (acts.NewMultiArray i n) = plain (acts.NewMultiArray i n) (new_multi_array n (class_at m.constant_pool i)) refl refl (multi_on n (class_at m.constant_pool i))
way_of m (acts.CheckCast i) = plain (acts.CheckCast i) (check_cast (class_at m.constant_pool i)) refl refl (cast_on (class_at m.constant_pool i))
way_of m (acts.InstanceOf i) = plain (acts.InstanceOf i) (instance_of (class_at m.constant_pool i)) refl refl (instance_on (class_at m.constant_pool i))
way_of m (acts.InvokeSpecial i) =
    plain (acts.InvokeSpecial i) (invoke_special m.major_version m.class (method_at m.constant_pool i)) refl refl (special_on m.major_version m.class (method_at m.constant_pool i))
way_of m (acts.New i) = plain (acts.New i) (new_object (class_at m.constant_pool i)) refl refl (new_on (class_at m.constant_pool i))
way_of m (acts.Return kind) = return_way kind m.type.result
way_of m acts.ReturnReference = reference_way m.type.result
way_of m acts.ReturnVoid = nothing_way m.type.result
