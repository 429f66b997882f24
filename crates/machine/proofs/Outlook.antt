-- An effect as it is seen by who chooses, and that each instruction's effect is seen as its act and constant say.
use Rattle.std.proofs.Common.{◌≡◌, ℕ, zero, suc, ◌+◌, ℤ, Bool, true, false, List, [], ◌∷◌, length, Option, Some, None, if◌then◌else◌, refl, ap, arith}
use Rattle.names.specs.declared.base.Primitive.{Primitive}
use Rattle.names.specs.declared.base.Primitive.TheVariants as primitives
use Rattle.names.specs.Descriptors.{FieldDescriptor, primitive, class as class_descriptor, array as array_descriptor}
use Rattle.names.specs.ReferenceTypes.{ReferenceType, class_type, array_type, descriptor_of}
use Rattle.pool.specs.Entries as entries
use Rattle.pool.specs.Entries.{Entry}
use Rattle.pool.specs.ConstantMeanings.{constant_at, class_at, FieldConstant, field_at, MethodConstant, method_at, dynamic_type_at, CallSite, call_site_at}
use Rattle.classfile.specs.Methods.{Method}
use Rattle.insn.specs.declared.kinds.Kind.{Kind}
use Rattle.insn.specs.Meanings as acts
use Rattle.insn.specs.Meanings.{Act}
use Rattle.machine.specs.Heap.{ready, made, object}
use Rattle.machine.specs.Effects as effects
use Rattle.machine.specs.Effects.{Demand, Reply, Effect, stuck, effect}
use Rattle.machine.specs.ByAct as by_act
use Rattle.machine.specs.ByAct.{Asks, nothing, a_value, an_element, an_address, jumps, is_return, is_throw, is_followed, is_store, object_place, cast_to, asks}

-- what a choice depends on
pub record Outlook : Type 0 where
  pub jumps : List ℤ
  pub follows : Bool
  pub returns : Bool
  pub throws : Bool
  pub stores : Bool
  pub object : Option ℕ
  pub casts : Option ReferenceType
  pub asks : Asks

abbrev pub outlook : Method Act → Act → Outlook
outlook m a = record {
  jumps = jumps a;
  follows = is_followed a;
  returns = is_return a;
  throws = is_throw a;
  stores = is_store a;
  object = object_place m a;
  casts = cast_to m a;
  asks = asks m a;
}

-- ---- of an effect

abbrev pub leaves_it : Effect → Bool
leaves_it (effects.leaves ns) = true
leaves_it effects.ends = true
leaves_it _ = false

abbrev pub throws_it : Effect → Bool
throws_it (effects.throws n) = true
throws_it _ = false

abbrev pub writes_it : Effect → Bool
writes_it (effects.writes n i k) = true
writes_it _ = false

abbrev pub object_in : Effect → Option ℕ
object_in (effects.operates ns live r os on) = live
object_in (effects.calls_special c ns live r) = live
object_in effects.takes_element = Some 1
object_in _ = None

abbrev pub cast_in : Effect → Option ReferenceType
cast_in (effects.passes t) = Some t
cast_in _ = None

abbrev pub reply_asks : Reply → ℕ → Asks
reply_asks (effects.gives_answer t) n = a_value t n
reply_asks _ n = nothing

abbrev pub asks_in : Effect → Asks
asks_in (effects.operates ns live r os on) = reply_asks r (length ns)
asks_in (effects.calls_special c ns live r) = reply_asks r (length ns)
asks_in effects.takes_element = an_element
asks_in (effects.creates c) = an_address (object (class_type c) made) 0
asks_in (effects.makes_array ns t) = an_address (object t ready) (length ns)
asks_in _ = nothing

abbrev pub outlook_of : Effect → Outlook
outlook_of t = record {
  jumps = effects.offsets_of t;
  follows = effects.falls t;
  returns = leaves_it t;
  throws = throws_it t;
  stores = writes_it t;
  object = object_in t;
  casts = cast_in t;
  asks = asks_in t;
}

-- ---- rows that are alike

abbrev on_object : Option ℕ → Asks → Outlook
on_object place k = record { jumps = []; follows = true; returns = false; throws = false; stores = false; object = place; casts = None; asks = k }

abbrev answers : Asks → Outlook
answers k = on_object None k

abbrev casts : Option ReferenceType → Outlook
casts t = record { jumps = []; follows = true; returns = false; throws = false; stores = false; object = None; casts = t; asks = nothing }

abbrev last : Outlook
last = record { jumps = []; follows = false; returns = true; throws = false; stores = false; object = None; casts = None; asks = nothing }

-- the effect is seen so, unless it is none
abbrev Seen : Effect → Outlook → Type 0
Seen t x = (t ≡ stuck → ⊥) → outlook_of t ≡ x

none : (x : Outlook) → Seen stuck x
none x e = absurd (e refl)

where_allowed : (b : Bool) (t : Effect) (x : Outlook) → outlook_of t ≡ x → Seen (effects.where_allowed b t) x
where_allowed true t x q e = q
where_allowed false t x q e = absurd (e refl)

-- ---- constants

computed_seen : (judged : Bool) (units : ℕ) (t : Option FieldDescriptor) → Seen (effects.load_dynamic judged units t) (answers (by_act.computed_value t))
computed_seen judged units (Some t) e = where_allowed _ (effects.operates [] None (effects.gives_answer t) [] true) (answers (by_act.computed_value (Some t))) refl e
computed_seen judged units None e = absurd (e refl)

constant_seen : (m : Method Act) (t : Option FieldDescriptor) (c : Option Entry) → Seen (effects.load_constant m t c) (answers (by_act.constant_value t c))
constant_seen m t (Some (entries.Integer bits)) e = refl
constant_seen m t (Some (entries.Float bits)) e = refl
constant_seen m t (Some (entries.String text)) e = refl
constant_seen m t (Some (entries.Class name)) e = refl
constant_seen m t (Some (entries.MethodType d)) e = refl
constant_seen m t (Some (entries.MethodHandle k target)) e = refl
constant_seen m t (Some (entries.Dynamic bootstrap name)) e = computed_seen m.dynamic 1 t e
constant_seen m t _ e = absurd (e refl)

wide_constant_seen : (m : Method Act) (t : Option FieldDescriptor) (c : Option Entry) → Seen (effects.load_wide_constant m t c) (answers (by_act.wide_constant_value t c))
wide_constant_seen m t (Some (entries.Long high low)) e = refl
wide_constant_seen m t (Some (entries.Double high low)) e = refl
wide_constant_seen m t (Some (entries.Dynamic bootstrap name)) e = computed_seen m.dynamic 2 t e
wide_constant_seen m t _ e = absurd (e refl)

get_static_seen : (c : Option FieldConstant) → Seen (effects.get_static c) (answers (by_act.field_value c 0))
get_static_seen (Some f) e = refl
get_static_seen None e = absurd (e refl)

put_static_seen : (c : Option FieldConstant) → Seen (effects.put_static c) (answers nothing)
put_static_seen (Some f) e = refl
put_static_seen None e = absurd (e refl)

get_field_seen : (c : Option FieldConstant) → Seen (effects.get_field c) (on_object (Some 0) (by_act.field_value c 1))
get_field_seen (Some f) e = refl
get_field_seen None e = absurd (e refl)

put_field_seen : (m : Method Act) (c : Option FieldConstant) → Seen (effects.put_field m c) (on_object (Some 1) nothing)
put_field_seen m (Some f) e = refl
put_field_seen m None e = absurd (e refl)

-- ---- calls

pub arguments_long : (ts : List FieldDescriptor) (ns : List Demand) → length (effects.arguments_on ts ns) ≡ length ts + length ns
arguments_long [] ns = omega arith
arguments_long (t ∷ ts) ns = let e = arguments_long ts (effects.demand_of t ∷ ns) in omega arith

reply_seen : (r : Option FieldDescriptor) (n k : ℕ) → n ≡ k → reply_asks (effects.reply_of r) n ≡ by_act.result_value r k
reply_seen None n k e = refl
reply_seen (Some t) n k e = ap (a_value t) e

called : (c : MethodConstant) (ns : List Demand) (place : Option ℕ)
    → on_object place (reply_asks (effects.reply_of c.type.result) (length (effects.arguments_on c.type.params ns))) ≡ on_object place (by_act.call_value (Some c) (length ns))
called c ns place =
    ap (on_object place) (reply_seen c.type.result (length (effects.arguments_on c.type.params ns)) (length c.type.params + length ns) (arguments_long c.type.params ns))

static_seen : (n : ℕ) (c : Option MethodConstant) → Seen (effects.invoke_static n c) (answers (by_act.call_value c 0))
static_seen n (Some c) e = where_allowed _ (effects.static_call c) (answers (by_act.call_value (Some c) 0)) (called c [] None) e
static_seen n None e = absurd (e refl)

site_seen : (m : Method Act) (c : Option CallSite) → Seen (effects.invoke_dynamic m c) (answers (by_act.site_value c))
site_seen m (Some c) e =
    let long = arguments_long c.type.params [] in
    where_allowed _ (effects.call_of c.type) (answers (by_act.site_value (Some c)))
    (ap (on_object None) (reply_seen c.type.result (length (effects.arguments_on c.type.params [])) (length c.type.params) (omega (arith, long)))) e
site_seen m None e = absurd (e refl)

abbrev on_receiver : Option MethodConstant → Outlook
on_receiver c = on_object (by_act.beneath_arguments c) (by_act.call_value c 1)

virtual_seen : (c : Option MethodConstant) → Seen (effects.invoke_virtual c) (on_receiver c)
virtual_seen (Some c) e = where_allowed _ (effects.call_on c.class c) (on_receiver (Some c)) (called c (effects.of_type c.class ∷ []) (Some (length c.type.params))) e
virtual_seen None e = absurd (e refl)

interface_seen : (n : ℕ) (c : Option MethodConstant) → Seen (effects.invoke_interface n c) (on_receiver c)
interface_seen n (Some c) e = where_allowed _ (effects.call_on c.class c) (on_receiver (Some c)) (called c (effects.of_type c.class ∷ []) (Some (length c.type.params))) e
interface_seen n None e = absurd (e refl)

constructor_seen : (c : MethodConstant) (r : ReferenceType) → Seen (effects.constructor_call c r) (answers nothing)
constructor_seen c (class_type name) e = where_allowed _ (effects.initializes name (effects.arguments_on c.type.params [])) (answers nothing) refl e
constructor_seen c (array_type component) e = absurd (e refl)

special_seen : (n : ℕ) (me : List ℕ) (c : Option MethodConstant) → Seen (effects.invoke_special n me c) (on_receiver (by_act.other_than_init c))
special_seen n me (Some c) = by (effects.is_init_name c)
  where
    by : (b : Bool) → Seen (if b then effects.constructor_call c c.class else effects.special_call n me c) (on_receiver (if b then None else Some c))
    by true = constructor_seen c c.class
    by false = λ e. where_allowed _ (effects.calls_special c.class _ _ _) (on_receiver (Some c)) (called c (effects.of_type (class_type me) ∷ []) (Some (length c.type.params))) e
special_seen n me None = λ e. absurd (e refl)

-- ---- objects and arrays

new_seen : (c : Option ReferenceType) → Seen (effects.new_object c) (answers (by_act.new_object c))
new_seen (Some (class_type name)) e = refl
new_seen _ e = absurd (e refl)

new_array_seen : (p : Option Primitive) → Seen (effects.new_array p) (answers (by_act.new_array p))
new_array_seen (Some p) e = refl
new_array_seen None e = absurd (e refl)

array_of_seen : (c : Option ReferenceType) → Seen (effects.new_reference_array c) (answers (by_act.array_of c))
array_of_seen (Some t) e = where_allowed _ (effects.makes_array _ (array_type (descriptor_of t))) (answers (by_act.array_of (Some t))) refl e
array_of_seen None e = absurd (e refl)

pub sizes_long : (n : ℕ) → length (effects.sizes n) ≡ n
sizes_long zero = refl
sizes_long (suc n) = ap suc (sizes_long n)

by_counts_seen : (n : ℕ) (c : Option ReferenceType) → Seen (effects.new_multi_array n c) (answers (by_act.array_by_counts c n))
by_counts_seen n (Some t) e =
    where_allowed _ (effects.makes_array (effects.sizes n) t) (answers (by_act.array_by_counts (Some t) n)) (ap (λ k. answers (an_address (object t ready) k)) (sizes_long n)) e
by_counts_seen n None e = absurd (e refl)

cast_seen : (c : Option ReferenceType) → Seen (effects.check_cast c) (casts c)
cast_seen (Some t) e = refl
cast_seen None e = absurd (e refl)

instance_seen : (c : Option ReferenceType) → Seen (effects.instance_of c) (answers nothing)
instance_seen (Some t) e = refl
instance_seen None e = absurd (e refl)

-- ---- returns

number_returned : (t : Option FieldDescriptor) (k : Kind) → Seen (effects.return_number t k) last
number_returned (Some (primitive p)) k e = where_allowed _ (effects.leaves (effects.of_kind k ∷ [])) last refl e
number_returned _ k e = absurd (e refl)

reference_returned : (t : Option FieldDescriptor) → Seen (effects.return_reference t) last
reference_returned (Some (class_descriptor c)) e = refl
reference_returned (Some (array_descriptor c)) e = refl
reference_returned _ e = absurd (e refl)

nothing_returned : (t : Option FieldDescriptor) → Seen (effects.return_nothing t) last
nothing_returned None e = refl
nothing_returned (Some t) e = absurd (e refl)

-- ---- each instruction's effect is seen as its act and constant say

pub seen : (m : Method Act) (a : Act) → Seen (effect m a) (outlook m a)
seen m acts.Nothing e = refl
seen m (acts.Constant k) e = refl
seen m acts.ConstantNull e = refl
seen m (acts.LoadConstant i) e = constant_seen m (dynamic_type_at m.constant_pool i) (constant_at m.constant_pool i) e
seen m (acts.LoadWideConstant i) e = wide_constant_seen m (dynamic_type_at m.constant_pool i) (constant_at m.constant_pool i) e
seen m (acts.Load k n) e = refl
seen m (acts.LoadReference n) e = refl
seen m (acts.Store k n) e = refl
seen m (acts.StoreReference n) e = refl
seen m (acts.Increment n) e = refl
seen m (acts.Numeric op) e = refl
seen m (acts.Stack op) e = refl
seen m (acts.IfInt t) e = refl
seen m (acts.IfInts t) e = refl
seen m (acts.IfReferences t) e = refl
seen m (acts.IfNull t) e = refl
seen m (acts.Goto t) e = refl
seen m (acts.Switch d ts) e = refl
seen m (acts.Return k) e = number_returned m.type.result k e
seen m acts.ReturnReference e = reference_returned m.type.result e
seen m acts.ReturnVoid e = nothing_returned m.type.result e
seen m (acts.GetStatic i) e = get_static_seen (field_at m.constant_pool i) e
seen m (acts.PutStatic i) e = put_static_seen (field_at m.constant_pool i) e
seen m (acts.GetField i) e = get_field_seen (field_at m.constant_pool i) e
seen m (acts.PutField i) e = put_field_seen m (field_at m.constant_pool i) e
seen m (acts.InvokeVirtual i) e = virtual_seen (method_at m.constant_pool i) e
seen m (acts.InvokeSpecial i) e = special_seen m.major_version m.class (method_at m.constant_pool i) e
seen m (acts.InvokeStatic i) e = static_seen m.major_version (method_at m.constant_pool i) e
seen m (acts.InvokeInterface i n) e = interface_seen n (method_at m.constant_pool i) e
seen m (acts.InvokeDynamic i) e = site_seen m (call_site_at m.constant_pool i) e
seen m (acts.New i) e = new_seen (class_at m.constant_pool i) e
seen m (acts.LoadElement p) e = refl
seen m (acts.StoreElement p) e = refl
seen m acts.LoadReferenceElement e = refl
seen m acts.StoreReferenceElement e = refl
seen m acts.ArrayLength e = refl
seen m (acts.NewArray p) e = new_array_seen p e
seen m (acts.NewReferenceArray i) e = array_of_seen (class_at m.constant_pool i) e
seen m (acts.NewMultiArray i n) e = by_counts_seen n (class_at m.constant_pool i) e
seen m (acts.CheckCast i) e = cast_seen (class_at m.constant_pool i) e
seen m (acts.InstanceOf i) e = instance_seen (class_at m.constant_pool i) e
seen m acts.Throw e = refl
seen m acts.Monitor e = refl
seen m acts.Unsupported e = absurd (e refl)
