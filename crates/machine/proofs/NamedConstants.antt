-- Where an act has an effect, its constant is there and of the kind that is asked for.
use Rattle.std.proofs.Common.{◌≡◌, ◌≢◌, ℕ, ◌<◌, ◌≤◌, Bool, true, false, not, ◌&&◌, ◌||◌, List, [], ◌∷◌, slice_get, Option, Some, None, if◌then◌else◌, inl, inr, refl, sym, ◌∙◌, subst, arith, nat_eq, nat_lt, eqb-true, eq-eqb, ltb-true, ltb-false}
use Rattle.std.specs.Str.{bytes_eq}
use Rattle.std.proofs.lemmas.Slice.Eq.{bytes_eq-Decides}
use Rattle.names.specs.declared.base.Primitive.{Primitive}
use Rattle.names.specs.Names.{less_than}
use Rattle.names.specs.Descriptors.{FieldDescriptor, field_width, method_width}
use Rattle.names.specs.ReferenceTypes.{ReferenceType, class_type, array_type, dimensions_of, is_class_type}
use Rattle.names.specs.StandardNames.{init_name}
use Rattle.pool.specs.Entries as entries
use Rattle.pool.specs.Entries.{Entry}
use Rattle.pool.specs.ConstantMeanings.{constant_at, class_at, FieldConstant, field_at, MethodConstant, method_at, dynamic_type_at, CallSite, call_site_at}
use Rattle.classfile.specs.Methods.{Method}
use Rattle.classfile.specs.Naming.{begins_with}
use Rattle.insn.specs.Meanings as acts
use Rattle.insn.specs.Meanings.{Act}
use Rattle.machine.specs.Effects as effects
use Rattle.machine.specs.Effects.{Effect, effect, stuck}
use Rattle.machine.specs.Demands.{MeetsRest}
use Rattle.machine.specs.NamedConstants.{IsNarrow, IsWide, IsClass, MayBeCalled, HasRoomForReceiver, IsVirtual, IsStatic, IsOfInterface, IsSpecial, IsSite, NamesConstant, ConstantsAreNamed}

-- ---- what is allowed

abbrev Has : Effect → Type 0
Has t = t ≡ stuck → ⊥

allowed : (b : Bool) (t : Effect) → Has (effects.where_allowed b t) → b ≡ true
allowed true t e = refl
allowed false t e = absurd (e refl)

both : (b c : Bool) → b && c ≡ true → (b ≡ true) × (c ≡ true)
both true true e = (refl, refl)
both true false e = cc
both false c e = cc

not_true : (b : Bool) → not b ≡ true → b ≡ false
not_true true e = cc
not_true false e = refl

true_false : true ≡ false → ⊥
true_false e = cc

unequal : (a b : List ℕ) → bytes_eq a b ≡ false → a ≢ b
unequal a b e p = true_false (sym ((bytes_eq-Decides a b).1 p) ∙ e)

is_class : (t : ReferenceType) → is_class_type t ≡ true → IsClass t
is_class (class_type name) e = (name, refl)
is_class (array_type component) e = cc

other : (c : MethodConstant) → not (effects.is_init_name c) ≡ true → c.name ≢ init_name
other c e = unequal c.name init_name (not_true _ e)

may_be_called : (m : Method Act) (c : MethodConstant) → effects.may_name m.major_version c.interface ≡ true → MayBeCalled m c
may_be_called m c e = by c.interface refl e
  where
    by : (b : Bool) → c.interface ≡ b → not b || nat_lt 51 m.major_version ≡ true → MayBeCalled m c
    by true q k = let lt = ltb-true 51 m.major_version k in inr (omega (arith, lt))
    by false q k = inl q

room : (c : MethodConstant) → effects.has_room_for_receiver c ≡ true → HasRoomForReceiver c
room c e = ltb-true (method_width c.type false) 255 e

-- ---- by family

computed : (m : Method Act) (units : ℕ) (o : Option FieldDescriptor) → Has (effects.load_dynamic m.dynamic units o) → (m.dynamic ≡ true) × ((t : FieldDescriptor) × (o ≡ Some t) × (field_width t ≡ units))
computed m units None e = absurd (e refl)
computed m units (Some t) e =
    let x = both m.dynamic (nat_eq (field_width t) units) (allowed _ _ e) in
    (x.0, (t, refl, eqb-true (field_width t) units x.1))

narrow : (m : Method Act) (i : ℕ) (o : Option Entry) → Has (effects.load_constant m (dynamic_type_at m.constant_pool i) o) → (e : Entry) × (o ≡ Some e) × IsNarrow m i e
narrow m i (Some (entries.Integer bits)) e = (entries.Integer bits, refl, tt)
narrow m i (Some (entries.Float bits)) e = (entries.Float bits, refl, tt)
narrow m i (Some (entries.String text)) e = (entries.String text, refl, tt)
narrow m i (Some (entries.Class name)) e = (entries.Class name, refl, tt)
narrow m i (Some (entries.MethodType d)) e = (entries.MethodType d, refl, tt)
narrow m i (Some (entries.MethodHandle k target)) e = (entries.MethodHandle k target, refl, tt)
narrow m i (Some (entries.Dynamic bootstrap name)) e = (entries.Dynamic bootstrap name, refl, computed m 1 (dynamic_type_at m.constant_pool i) e)
narrow m i _ e = absurd (e refl)

wide : (m : Method Act) (i : ℕ) (o : Option Entry) → Has (effects.load_wide_constant m (dynamic_type_at m.constant_pool i) o) → (e : Entry) × (o ≡ Some e) × IsWide m i e
wide m i (Some (entries.Long high low)) e = (entries.Long high low, refl, tt)
wide m i (Some (entries.Double high low)) e = (entries.Double high low, refl, tt)
wide m i (Some (entries.Dynamic bootstrap name)) e = (entries.Dynamic bootstrap name, refl, computed m 2 (dynamic_type_at m.constant_pool i) e)
wide m i _ e = absurd (e refl)

abbrev Named : {A : Type 0} → Option A → (A → Type 0) → Type 0
Named {A = A} o Is = (a : A) × (o ≡ Some a) × Is a

get_static_named : (o : Option FieldConstant) → Has (effects.get_static o) → (f : FieldConstant) × (o ≡ Some f)
get_static_named (Some f) e = (f, refl)
get_static_named None e = absurd (e refl)

put_static_named : (o : Option FieldConstant) → Has (effects.put_static o) → (f : FieldConstant) × (o ≡ Some f)
put_static_named (Some f) e = (f, refl)
put_static_named None e = absurd (e refl)

get_field_named : (o : Option FieldConstant) → Has (effects.get_field o) → (f : FieldConstant) × (o ≡ Some f)
get_field_named (Some f) e = (f, refl)
get_field_named None e = absurd (e refl)

put_field_named : (m : Method Act) (o : Option FieldConstant) → Has (effects.put_field m o) → (f : FieldConstant) × (o ≡ Some f)
put_field_named m (Some f) e = (f, refl)
put_field_named m None e = absurd (e refl)

virtual_named : (o : Option MethodConstant) → Has (effects.invoke_virtual o) → Named o IsVirtual
virtual_named (Some c) e =
    let x = both (not c.interface) _ (allowed _ _ e) in
    let y = both (not (effects.is_init_name c)) (effects.has_room_for_receiver c) x.1 in
    (c, refl, (not_true c.interface x.0, other c y.0, room c y.1))
virtual_named None e = absurd (e refl)

static_named : (m : Method Act) (o : Option MethodConstant) → Has (effects.invoke_static m.major_version o) → Named o (IsStatic m)
static_named m (Some c) e =
    let x = both (is_class_type c.class) _ (allowed _ _ e) in
    let y = both (not (effects.is_init_name c)) (effects.may_name m.major_version c.interface) x.1 in
    (c, refl, (is_class c.class x.0, other c y.0, may_be_called m c y.1))
static_named m None e = absurd (e refl)

interface_named : (count : ℕ) (o : Option MethodConstant) → Has (effects.invoke_interface count o) → Named o (IsOfInterface count)
interface_named count (Some c) e =
    let x = both (is_class_type c.class) _ (allowed _ _ e) in
    let y = both c.interface _ x.1 in
    let z = both (not (effects.is_init_name c)) _ y.1 in
    let u = both (effects.has_room_for_receiver c) (nat_eq count (method_width c.type true)) z.1 in
    (c, refl, (is_class c.class x.0, y.0, other c z.0, room c u.0, eqb-true count (method_width c.type true) u.1))
interface_named count None e = absurd (e refl)

constructor_named : (m : Method Act) (c : MethodConstant) (r : ReferenceType) → c.class ≡ r → c.name ≡ init_name → Has (effects.constructor_call c r) → IsSpecial m c
constructor_named m c (class_type name) q init e =
    let x = both (not c.interface) (effects.has_room_for_receiver c) (allowed _ _ e) in
    ((name, q), room c x.1, inl (init, not_true c.interface x.0))
constructor_named m c (array_type t) q init e = absurd (e refl)

other_named : (m : Method Act) (c : MethodConstant) → c.name ≢ init_name → Has (effects.special_call m.major_version m.class c) → IsSpecial m c
other_named m c n e =
    let x = both (is_class_type c.class) _ (allowed _ _ e) in
    let y = both (effects.has_room_for_receiver c) (effects.may_name m.major_version c.interface) x.1 in
    (is_class c.class x.0, room c y.0, inr (n, may_be_called m c y.1))

special_named : (m : Method Act) (o : Option MethodConstant) → Has (effects.invoke_special m.major_version m.class o) → Named o (IsSpecial m)
special_named m (Some c) e = (c, refl, by (effects.is_init_name c) refl e)
  where
    by : (b : Bool) → effects.is_init_name c ≡ b → Has (if b then effects.constructor_call c c.class else effects.special_call m.major_version m.class c) → IsSpecial m c
    by true q k = constructor_named m c c.class refl ((bytes_eq-Decides c.name init_name).0 q) k
    by false q k = other_named m c (unequal c.name init_name q) k
special_named m None e = absurd (e refl)

no_angle : (name : List ℕ) → begins_with less_than name ≡ false → slice_get name 0 ≢ Some 60
no_angle [] e k = cc
no_angle (x ∷ bytes) e k =
    let same : x ≡ 60 = one x 60 k in
    true_false (sym (eq-eqb x less_than same) ∙ e)
  where
    one : (a b : ℕ) → Some a ≡ Some b → a ≡ b
    one a b e = cc

site_named : (m : Method Act) (o : Option CallSite) → Has (effects.invoke_dynamic m o) → Named o (IsSite m)
site_named m (Some c) e =
    let x = both m.dynamic (not (effects.is_special_name c)) (allowed _ _ e) in
    (c, refl, (x.0, no_angle c.name (not_true _ x.1)))
site_named m None e = absurd (e refl)

new_named : (o : Option ReferenceType) → Has (effects.new_object o) → Named o IsClass
new_named (Some (class_type name)) e = (class_type name, refl, (name, refl))
new_named (Some (array_type component)) e = absurd (e refl)
new_named None e = absurd (e refl)

new_array_named : (o : Option Primitive) → Has (effects.new_array o) → (p : Primitive) × (o ≡ Some p)
new_array_named (Some p) e = (p, refl)
new_array_named None e = absurd (e refl)

array_of_named : (o : Option ReferenceType) → Has (effects.new_reference_array o) → Named o (λ t. dimensions_of t < 255)
array_of_named (Some t) e = (t, refl, ltb-true (dimensions_of t) 255 (allowed _ _ e))
array_of_named None e = absurd (e refl)

within : (a b : ℕ) → not (nat_lt a b) ≡ true → b ≤ a
within a b e = ltb-false a b (not_true (nat_lt a b) e)

by_counts_named : (n : ℕ) (o : Option ReferenceType) → Has (effects.new_multi_array n o) → Named o (λ t. (1 ≤ n) × (n ≤ dimensions_of t))
by_counts_named n (Some t) e =
    let x = both (nat_lt 0 n) (not (nat_lt (dimensions_of t) n)) (allowed _ _ e) in
    let lt = ltb-true 0 n x.0 in
    (t, refl, (omega (arith, lt), within (dimensions_of t) n x.1))
by_counts_named n None e = absurd (e refl)

cast_named : (o : Option ReferenceType) → Has (effects.check_cast o) → Named o (λ t. Unit {0})
cast_named (Some t) e = (t, refl, tt)
cast_named None e = absurd (e refl)

instance_named : (o : Option ReferenceType) → Has (effects.instance_of o) → Named o (λ t. Unit {0})
instance_named (Some t) e = (t, refl, tt)
instance_named None e = absurd (e refl)

-- ---- by act

named : (m : Method Act) (act : Act) → Has (effect m act) → NamesConstant m act
named m (acts.LoadConstant i) e = narrow m i (constant_at m.constant_pool i) e
named m (acts.LoadWideConstant i) e = wide m i (constant_at m.constant_pool i) e
named m (acts.GetStatic i) e = get_static_named (field_at m.constant_pool i) e
named m (acts.PutStatic i) e = put_static_named (field_at m.constant_pool i) e
named m (acts.GetField i) e = get_field_named (field_at m.constant_pool i) e
named m (acts.PutField i) e = put_field_named m (field_at m.constant_pool i) e
named m (acts.InvokeVirtual i) e = virtual_named (method_at m.constant_pool i) e
named m (acts.InvokeSpecial i) e = special_named m (method_at m.constant_pool i) e
named m (acts.InvokeStatic i) e = static_named m (method_at m.constant_pool i) e
named m (acts.InvokeInterface i count) e = interface_named count (method_at m.constant_pool i) e
named m (acts.InvokeDynamic i) e = site_named m (call_site_at m.constant_pool i) e
named m (acts.New i) e = new_named (class_at m.constant_pool i) e
named m (acts.NewArray element) e = new_array_named element e
named m (acts.NewReferenceArray i) e = array_of_named (class_at m.constant_pool i) e
named m (acts.NewMultiArray i n) e = by_counts_named n (class_at m.constant_pool i) e
named m (acts.CheckCast i) e = cast_named (class_at m.constant_pool i) e
named m (acts.InstanceOf i) e = instance_named (class_at m.constant_pool i) e
named m acts.Unsupported e = e refl
named m _ e = tt

pub constants_are_named : ConstantsAreNamed
constants_are_named world m s act o = named m act (λ e. subst (λ t. MeetsRest world m t s) e o.others)
