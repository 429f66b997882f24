-- An instruction that may go on falls through or has a target.
use Rattle.std.proofs.Common.{◌≡◌, ℕ, ℤ, Bool, true, false, List, [], ◌∷◌, Option, Some, None, if◌then◌else◌, ◌⊎◌, inl, inr, refl}
use Rattle.names.specs.declared.base.Primitive.{Primitive}
use Rattle.names.specs.Descriptors.{FieldDescriptor, primitive, class as class_descriptor, array as array_descriptor}
use Rattle.names.specs.ReferenceTypes.{ReferenceType, class_type, array_type}
use Rattle.pool.specs.Entries as entries
use Rattle.pool.specs.Entries.{Entry}
use Rattle.pool.specs.ConstantMeanings.{constant_at, class_at, FieldConstant, field_at, MethodConstant, method_at, dynamic_type_at, CallSite, call_site_at}
use Rattle.classfile.specs.Methods.{Method}
use Rattle.insn.specs.declared.kinds.Kind.{Kind}
use Rattle.insn.specs.Meanings as acts
use Rattle.insn.specs.Meanings.{Act}
use Rattle.machine.specs.Effects as effects
use Rattle.machine.specs.Effects.{Effect, effect}

-- it does not go on, it falls through, or it has an offset to go to
abbrev pub Flows : Effect → Type 0
Flows (effects.operates demands live reply offsets on) = (on ≡ true) ⊎ ((z : ℤ) × (zs : List ℤ) × (offsets ≡ z ∷ zs))
Flows _ = Unit {0}

where_allowed_flows : (b : Bool) (t : Effect) → Flows t → Flows (effects.where_allowed b t)
where_allowed_flows true t f = f
where_allowed_flows false t f = tt

load_dynamic_flows : (judged : Bool) (units : ℕ) (t : Option FieldDescriptor) → Flows (effects.load_dynamic judged units t)
load_dynamic_flows judged units (Some t) = where_allowed_flows _ (effects.operates [] None (effects.gives_answer t) [] true) (inl refl)
load_dynamic_flows judged units None = tt

load_constant_flows : (m : Method Act) (t : Option FieldDescriptor) (c : Option Entry) → Flows (effects.load_constant m t c)
load_constant_flows m t (Some (entries.Integer bits)) = inl refl
load_constant_flows m t (Some (entries.Float bits)) = inl refl
load_constant_flows m t (Some (entries.String text)) = inl refl
load_constant_flows m t (Some (entries.Class name)) = inl refl
load_constant_flows m t (Some (entries.MethodType d)) = inl refl
load_constant_flows m t (Some (entries.MethodHandle k target)) = inl refl
load_constant_flows m t (Some (entries.Dynamic bootstrap name)) = load_dynamic_flows m.dynamic 1 t
load_constant_flows m t _ = tt

load_wide_constant_flows : (m : Method Act) (t : Option FieldDescriptor) (c : Option Entry) → Flows (effects.load_wide_constant m t c)
load_wide_constant_flows m t (Some (entries.Long high low)) = inl refl
load_wide_constant_flows m t (Some (entries.Double high low)) = inl refl
load_wide_constant_flows m t (Some (entries.Dynamic bootstrap name)) = load_dynamic_flows m.dynamic 2 t
load_wide_constant_flows m t _ = tt

get_static_flows : (c : Option FieldConstant) → Flows (effects.get_static c)
get_static_flows (Some f) = inl refl
get_static_flows None = tt

put_static_flows : (c : Option FieldConstant) → Flows (effects.put_static c)
put_static_flows (Some f) = inl refl
put_static_flows None = tt

get_field_flows : (c : Option FieldConstant) → Flows (effects.get_field c)
get_field_flows (Some f) = inl refl
get_field_flows None = tt

put_field_flows : (m : Method Act) (c : Option FieldConstant) → Flows (effects.put_field m c)
put_field_flows m (Some f) = inl refl
put_field_flows m None = tt

static_flows : (n : ℕ) (c : Option MethodConstant) → Flows (effects.invoke_static n c)
static_flows n (Some c) = where_allowed_flows _ (effects.static_call c) (inl refl)
static_flows n None = tt

site_flows : (m : Method Act) (c : Option CallSite) → Flows (effects.invoke_dynamic m c)
site_flows m (Some c) = where_allowed_flows _ (effects.call_of c.type) (inl refl)
site_flows m None = tt

virtual_flows : (c : Option MethodConstant) → Flows (effects.invoke_virtual c)
virtual_flows (Some c) = where_allowed_flows _ (effects.call_on c.class c) (inl refl)
virtual_flows None = tt

interface_flows : (n : ℕ) (c : Option MethodConstant) → Flows (effects.invoke_interface n c)
interface_flows n (Some c) = where_allowed_flows _ (effects.call_on c.class c) (inl refl)
interface_flows n None = tt

constructor_flows : (c : MethodConstant) (r : ReferenceType) → Flows (effects.constructor_call c r)
constructor_flows c (class_type name) = where_allowed_flows _ (effects.initializes name (effects.arguments_on c.type.params [])) tt
constructor_flows c (array_type component) = tt

special_flows : (n : ℕ) (me : List ℕ) (c : Option MethodConstant) → Flows (effects.invoke_special n me c)
special_flows n me (Some c) = by (effects.is_init_name c)
  where
    by : (b : Bool) → Flows (if b then effects.constructor_call c c.class else effects.special_call n me c)
    by true = constructor_flows c c.class
    by false = where_allowed_flows _ (effects.calls_special c.class _ _ _) tt
special_flows n me None = tt

new_flows : (c : Option ReferenceType) → Flows (effects.new_object c)
new_flows (Some (class_type name)) = tt
new_flows _ = tt

new_array_flows : (p : Option Primitive) → Flows (effects.new_array p)
new_array_flows (Some p) = tt
new_array_flows None = tt

new_reference_array_flows : (c : Option ReferenceType) → Flows (effects.new_reference_array c)
new_reference_array_flows (Some t) = where_allowed_flows _ (effects.makes_array _ _) tt
new_reference_array_flows None = tt

new_multi_array_flows : (n : ℕ) (c : Option ReferenceType) → Flows (effects.new_multi_array n c)
new_multi_array_flows n (Some t) = where_allowed_flows _ (effects.makes_array (effects.sizes n) t) tt
new_multi_array_flows n None = tt

cast_flows : (c : Option ReferenceType) → Flows (effects.check_cast c)
cast_flows (Some t) = tt
cast_flows None = tt

instance_flows : (c : Option ReferenceType) → Flows (effects.instance_of c)
instance_flows (Some t) = inl refl
instance_flows None = tt

return_number_flows : (t : Option FieldDescriptor) (k : Kind) → Flows (effects.return_number t k)
return_number_flows (Some (primitive p)) k = where_allowed_flows _ (effects.leaves (effects.of_kind k ∷ [])) tt
return_number_flows _ k = tt

return_reference_flows : (t : Option FieldDescriptor) → Flows (effects.return_reference t)
return_reference_flows (Some (class_descriptor c)) = tt
return_reference_flows (Some (array_descriptor c)) = tt
return_reference_flows _ = tt

return_nothing_flows : (t : Option FieldDescriptor) → Flows (effects.return_nothing t)
return_nothing_flows None = tt
return_nothing_flows (Some t) = tt

pub flows : (m : Method Act) (a : Act) → Flows (effect m a)
flows m acts.Nothing = inl refl
flows m (acts.Constant k) = inl refl
flows m acts.ConstantNull = inl refl
flows m (acts.LoadConstant i) = load_constant_flows m (dynamic_type_at m.constant_pool i) (constant_at m.constant_pool i)
flows m (acts.LoadWideConstant i) = load_wide_constant_flows m (dynamic_type_at m.constant_pool i) (constant_at m.constant_pool i)
flows m (acts.Load k n) = tt
flows m (acts.LoadReference n) = tt
flows m (acts.Store k n) = tt
flows m (acts.StoreReference n) = tt
flows m (acts.Increment n) = tt
flows m (acts.Numeric op) = inl refl
flows m (acts.Stack op) = tt
flows m (acts.IfInt t) = inl refl
flows m (acts.IfInts t) = inl refl
flows m (acts.IfReferences t) = inl refl
flows m (acts.IfNull t) = inl refl
flows m (acts.Goto t) = inr (t, [], refl)
flows m (acts.Switch d ts) = inr (d, ts, refl)
flows m (acts.Return k) = return_number_flows m.type.result k
flows m acts.ReturnReference = return_reference_flows m.type.result
flows m acts.ReturnVoid = return_nothing_flows m.type.result
flows m (acts.GetStatic i) = get_static_flows (field_at m.constant_pool i)
flows m (acts.PutStatic i) = put_static_flows (field_at m.constant_pool i)
flows m (acts.GetField i) = get_field_flows (field_at m.constant_pool i)
flows m (acts.PutField i) = put_field_flows m (field_at m.constant_pool i)
flows m (acts.InvokeVirtual i) = virtual_flows (method_at m.constant_pool i)
flows m (acts.InvokeSpecial i) = special_flows m.major_version m.class (method_at m.constant_pool i)
flows m (acts.InvokeStatic i) = static_flows m.major_version (method_at m.constant_pool i)
flows m (acts.InvokeInterface i n) = interface_flows n (method_at m.constant_pool i)
flows m (acts.InvokeDynamic i) = site_flows m (call_site_at m.constant_pool i)
flows m (acts.New i) = new_flows (class_at m.constant_pool i)
flows m (acts.LoadElement p) = inl refl
flows m (acts.StoreElement p) = inl refl
flows m acts.LoadReferenceElement = tt
flows m acts.StoreReferenceElement = inl refl
flows m acts.ArrayLength = inl refl
flows m (acts.NewArray p) = new_array_flows p
flows m (acts.NewReferenceArray i) = new_reference_array_flows (class_at m.constant_pool i)
flows m (acts.NewMultiArray i n) = new_multi_array_flows n (class_at m.constant_pool i)
flows m (acts.CheckCast i) = cast_flows (class_at m.constant_pool i)
flows m (acts.InstanceOf i) = instance_flows (class_at m.constant_pool i)
flows m acts.Throw = tt
flows m acts.Monitor = inl refl
flows m acts.Unsupported = tt
