-- A state that meets the demands of an act has what the act and its constant ask for.
use Rattle.std.proofs.Common.{◌≡◌, ℕ, zero, suc, ◌+◌, ◌≤◌, Bool, true, false, not, ◌&&◌, List, [], ◌∷◌, length, slice_get, Option, Some, None, if◌then◌else◌, ◌⊎◌, inl, inr, refl, sym, ap, ◌∙◌, subst, arith}
use Rattle.names.specs.declared.base.Primitive.{Primitive}
use Rattle.names.specs.Descriptors.{FieldDescriptor, primitive, class as class_descriptor, array as array_descriptor}
use Rattle.names.specs.ReferenceTypes.{ReferenceType, class_type, array_type, descriptor_of, is_class_type}
use Rattle.names.specs.StandardNames.{object_name, throwable_name}
use Rattle.pool.specs.ConstantMeanings.{class_at, FieldConstant, field_at, MethodConstant, method_at, CallSite, call_site_at}
use Rattle.classfile.specs.Methods.{Method, is_own_field}
use Rattle.hierarchy.specs.World.{World}
use Rattle.insn.specs.declared.kinds.Kind.{Kind}
use Rattle.insn.specs.declared.kinds.Kind.TheVariants as kinds
use Rattle.insn.specs.declared.stack.StackOperator.{StackOperator}
use Rattle.insn.specs.Kinds.{kind_units, computed_as, same_kind}
use Rattle.insn.specs.Operators.{numeric_row}
use Rattle.insn.specs.OperandStacks.{beneath, rearranged}
use Rattle.insn.specs.Meanings as acts
use Rattle.insn.specs.Meanings.{Act}
use Rattle.insn.specs.Offsets.{IsAmong}
use Rattle.insn.proofs.ByUnits.{arrays_are_taken, forms_move_units}
use Rattle.machine.specs.Values.{Value, number, null, reference, Slot, empty, second, holds, is_wide_value, ArePairedBehind}
use Rattle.machine.specs.Heap.{Heap, IsBelow, FitsReference, IsThis}
use Rattle.machine.specs.Effects as effects
use Rattle.machine.specs.Effects.{Demand, Effect, effect, stuck, demands_of}
use Rattle.machine.specs.Demands.{State, Meets, IsMade, IsOwn, HasReceiver, MeetsRest, HasOperands, EndsReady}
use Rattle.machine.specs.ByType.{kind_of, IsOfReferences, units_of_kind, units_of}
use Rattle.machine.specs.ByAct.{other_than_init}
use Rattle.machine.specs.Pushes.{AreMoved}
use Rattle.machine.specs.OperandTypes as by_act
use Rattle.machine.specs.OperandTypes.{Wanted, a_number, typed, any_reference, any_array, array_for, object_with, IsArrayWith, AreTaken, IsOwnWith, IsWanted, placed, from_top, operand_types, local_read, locals_stored_to, IsPair, constructor_of, constructor_called, special_called, HasConstructed, ReturnsResult, IsTyped, OperandsAreTyped, OwnObjectIsDone}
use Rattle.machine.proofs.ByType.{computed_so, number_of, type_where, of_reference}
use Rattle.machine.proofs.Outlook.{arguments_long}
use Rattle.machine.proofs.Pushes.{are_moved}
use Rattle.machine.proofs.Uses.{met_at, beneath_them, both_true}

-- ---- a value that meets a demand is what is asked

abbrev Means : Method Act → Demand → Wanted → Type 0
Means m n w = (world : World) (heap : Heap) (v : Value) → Meets world heap n v → IsWanted world m heap w v

same_number : (m : Method Act) (k : Kind) → Means m (effects.of_kind k) (a_number k)
same_number m k world heap v e = e

of_a_type : (m : Method Act) (t : FieldDescriptor) → Means m (effects.demand_of t) (typed t)
of_a_type m (primitive p) world heap v e = type_where world heap (primitive p) v e
of_a_type m (class_descriptor c) world heap v e = type_where world heap (class_descriptor c) v e
of_a_type m (array_descriptor c) world heap v e = type_where world heap (array_descriptor c) v e

of_references : (m : Method Act) (t : ReferenceType) → Means m (effects.of_type t) (typed (descriptor_of t))
of_references m t world heap v e = of_reference world heap t v e

some_reference : (m : Method Act) → Means m effects.some_reference any_reference
some_reference m world heap (number k) e = elim e [ ]
some_reference m world heap null e = inl refl
some_reference m world heap (reference a) e = inr (a, refl)

some_array : (m : Method Act) → Means m effects.some_array any_array
some_array m world heap (number k) e = elim e [ ]
some_array m world heap null e = inl refl
some_array m world heap (reference a) (class_type c, here, is) = elim is [ ]
some_array m world heap (reference a) (array_type c, here, is) = inr (a, c, refl, here, tt)

some_array_for : (m : Method Act) (p : Primitive) → Means m (effects.some_array_for p) (array_for p)
some_array_for m p world heap (number k) e = elim e [ ]
some_array_for m p world heap null e = inl refl
some_array_for m p world heap (reference a) (class_type c, here, is) = elim is [ ]
some_array_for m p world heap (reference a) (array_type (primitive q), here, is) = inr (a, primitive q, refl, here, (q, refl, (arrays_are_taken p q).0 is))
some_array_for m p world heap (reference a) (array_type (class_descriptor c), here, is) = elim is [ ]
some_array_for m p world heap (reference a) (array_type (array_descriptor c), here, is) = elim is [ ]

set_object : (m : Method Act) (f : FieldConstant) → Means m (effects.target_of m f) (object_with f)
set_object m f world heap v e = by (m.is_init && is_own_field m f) refl e
  where
    own : m.is_init && is_own_field m f ≡ true → FitsReference world heap (class_type f.class) v ⊎ IsThis heap v → IsWanted world m heap (object_with f) v
    own q (inl fits) = inl (of_reference world heap (class_type f.class) v fits)
    own q (inr it) = let k = both_true m.is_init (is_own_field m f) q in inr (k.0, k.1, it)

    by : (b : Bool) → m.is_init && is_own_field m f ≡ b → Meets world heap (if b then effects.own_or_of f.class else effects.of_type (class_type f.class)) v → IsWanted world m heap (object_with f) v
    by true q k = own q k
    by false q k = inl (of_reference world heap (class_type f.class) v k)

same_kind_is : (a b : Kind) → same_kind a b ≡ true → a ≡ b
same_kind_is kinds.Int kinds.Int e = refl
same_kind_is kinds.Long kinds.Long e = refl
same_kind_is kinds.Float kinds.Float e = refl
same_kind_is kinds.Double kinds.Double e = refl
same_kind_is _ _ e = cc

-- ---- by place

record Asked (m : Method Act) (ns : List Demand) (place : ℕ) (w : Wanted) : Type 0 where
  demand : Demand
  here : slice_get ns place ≡ Some demand
  means : Means m demand w

abbrev AllAsked : Method Act → List Demand → List (ℕ × Wanted) → Type 0
AllAsked m ns xs = (place : ℕ) (w : Wanted) → IsAmong (place, w) xs → Asked m ns place w

none_asked : (m : Method Act) (ns : List Demand) → AllAsked m ns []
none_asked m ns place w i = elim i [ ]

first_asked : (m : Method Act) (ns : List Demand) (at : ℕ) (u : Wanted) (xs : List (ℕ × Wanted)) → Asked m ns at u → AllAsked m ns xs → AllAsked m ns ((at, u) ∷ xs)
first_asked m ns at u xs x y place w (inl e) = subst (λ z. Asked m ns z.0 z.1) (sym e) x
first_asked m ns at u xs x y place w (inr e) = y place w e

abbrev Along : Method Act → List Demand → List Wanted → Type 0
Along m ns [] = Unit {0}
Along m [] (w ∷ ws) = ⊥
Along m (n ∷ ns) (w ∷ ws) = Means m n w × Along m ns ws

along_from : (m : Method Act) (all : List Demand) (k : ℕ) (ns : List Demand) (ws : List Wanted) → ((i : ℕ) → slice_get all (k + i) ≡ slice_get ns i) → Along m ns ws → AllAsked m all (placed k ws)
along_from m all k ns [] same x = none_asked m all
along_from m all k [] (w ∷ ws) same x = elim x [ ]
along_from m all k (n ∷ ns) (w ∷ ws) same x =
    let at : k ≡ k + 0 = omega arith in
    first_asked m all k w (placed (suc k) ws) (record { demand = n; here = ap (slice_get all) at ∙ same 0; means = x.0 })
    (along_from m all (suc k) ns ws (λ i. let next : suc k + i ≡ k + suc i = omega arith in ap (slice_get all) next ∙ same (suc i)) x.1)

along : (m : Method Act) (ns : List Demand) (ws : List Wanted) → Along m ns ws → AllAsked m ns (from_top ws)
along m ns ws x = along_from m ns 0 ns ws (λ i. let same : 0 + i ≡ i = omega arith in ap (slice_get ns) same) x

along_kinds : (m : Method Act) (ks : List Kind) → Along m (effects.demands_of_kinds ks) (by_act.numbers ks)
along_kinds m [] = tt
along_kinds m (k ∷ ks) = (same_number m k, along_kinds m ks)

along_sizes : (m : Method Act) (n : ℕ) → Along m (effects.sizes n) (by_act.ints n)
along_sizes m zero = tt
along_sizes m (suc n) = (same_number m kinds.Int, along_sizes m n)

-- ---- arguments

arguments_asked : (m : Method Act) (ts : List FieldDescriptor) (ns : List Demand) → AllAsked m (effects.arguments_on ts ns) (by_act.arguments ts)
arguments_asked m [] ns = none_asked m ns
arguments_asked m (t ∷ ts) ns =
    let at : length ts ≡ length ts + 0 = omega arith in
    let all = effects.arguments_on ts (effects.demand_of t ∷ ns) in
    first_asked m all (length ts) (typed t) (by_act.arguments ts)
    (record { demand = effects.demand_of t; here = ap (slice_get all) at ∙ beneath_them ts (effects.demand_of t ∷ ns) 0; means = of_a_type m t })
    (arguments_asked m ts (effects.demand_of t ∷ ns))

receiver_asked : (m : Method Act) (r : ReferenceType) (ts : List FieldDescriptor) → AllAsked m (effects.arguments_on ts (effects.of_type r ∷ [])) (by_act.on_receiver r ts)
receiver_asked m r ts =
    let at : length ts ≡ length ts + 0 = omega arith in
    let all = effects.arguments_on ts (effects.of_type r ∷ []) in
    first_asked m all (length ts) (typed (descriptor_of r)) (by_act.arguments ts)
    (record { demand = effects.of_type r; here = ap (slice_get all) at ∙ beneath_them ts (effects.of_type r ∷ []) 0; means = of_references m r })
    (arguments_asked m ts (effects.of_type r ∷ []))

-- ---- by family, unless the effect is none

abbrev Asks : Method Act → Effect → List (ℕ × Wanted) → Type 0
Asks m t xs = (t ≡ stuck → ⊥) → AllAsked m (demands_of t) xs

where_allowed : (m : Method Act) (b : Bool) (t : Effect) (xs : List (ℕ × Wanted)) → AllAsked m (demands_of t) xs → Asks m (effects.where_allowed b t) xs
where_allowed m true t xs x e = x
where_allowed m false t xs x e = absurd (e refl)

put_static_asks : (m : Method Act) (c : Option FieldConstant) → Asks m (effects.put_static c) (from_top (by_act.static_value c))
put_static_asks m (Some f) e = along m (effects.demand_of f.type ∷ []) (typed f.type ∷ []) (of_a_type m f.type, tt)
put_static_asks m None e = absurd (e refl)

get_field_asks : (m : Method Act) (c : Option FieldConstant) → Asks m (effects.get_field c) (from_top (by_act.field_owner c))
get_field_asks m (Some f) e = along m (effects.of_type (class_type f.class) ∷ []) (typed (class_descriptor f.class) ∷ []) (of_references m (class_type f.class), tt)
get_field_asks m None e = absurd (e refl)

put_field_asks : (m : Method Act) (c : Option FieldConstant) → Asks m (effects.put_field m c) (from_top (by_act.field_value c))
put_field_asks m (Some f) e = along m (effects.demand_of f.type ∷ effects.target_of m f ∷ []) (typed f.type ∷ object_with f ∷ []) (of_a_type m f.type, (set_object m f, tt))
put_field_asks m None e = absurd (e refl)

static_asks : (m : Method Act) (n : ℕ) (c : Option MethodConstant) → Asks m (effects.invoke_static n c) (by_act.call_of c)
static_asks m n (Some c) e = where_allowed m _ (effects.static_call c) (by_act.arguments c.type.params) (arguments_asked m c.type.params []) e
static_asks m n None e = absurd (e refl)

site_asks : (m : Method Act) (c : Option CallSite) → Asks m (effects.invoke_dynamic m c) (by_act.call_site c)
site_asks m (Some c) e = where_allowed m _ (effects.call_of c.type) (by_act.arguments c.type.params) (arguments_asked m c.type.params []) e
site_asks m None e = absurd (e refl)

virtual_asks : (m : Method Act) (c : Option MethodConstant) → Asks m (effects.invoke_virtual c) (by_act.call_on c)
virtual_asks m (Some c) e = where_allowed m _ (effects.call_on c.class c) (by_act.on_receiver c.class c.type.params) (receiver_asked m c.class c.type.params) e
virtual_asks m None e = absurd (e refl)

interface_asks : (m : Method Act) (n : ℕ) (c : Option MethodConstant) → Asks m (effects.invoke_interface n c) (by_act.call_on c)
interface_asks m n (Some c) e = where_allowed m _ (effects.call_on c.class c) (by_act.on_receiver c.class c.type.params) (receiver_asked m c.class c.type.params) e
interface_asks m n None e = absurd (e refl)

constructor_asks : (m : Method Act) (c : MethodConstant) (r : ReferenceType) → Asks m (effects.constructor_call c r) (by_act.arguments c.type.params)
constructor_asks m c (class_type name) e = where_allowed m _ (effects.initializes name (effects.arguments_on c.type.params [])) (by_act.arguments c.type.params) (arguments_asked m c.type.params []) e
constructor_asks m c (array_type component) e = absurd (e refl)

special_asks : (m : Method Act) (n : ℕ) (me : List ℕ) (c : Option MethodConstant) → Asks m (effects.invoke_special n me c) (by_act.call_special me c)
special_asks m n me (Some c) = by (effects.is_init_name c)
  where
    by : (b : Bool) → Asks m (if b then effects.constructor_call c c.class else effects.special_call n me c) (if b then by_act.arguments c.type.params else by_act.on_receiver (class_type me) c.type.params)
    by true = constructor_asks m c c.class
    by false = λ e. where_allowed m _ (effects.calls_special c.class _ _ _) (by_act.on_receiver (class_type me) c.type.params) (receiver_asked m (class_type me) c.type.params) e
special_asks m n me None = λ e. absurd (e refl)

new_array_asks : (m : Method Act) (p : Option Primitive) → Asks m (effects.new_array p) (from_top (a_number kinds.Int ∷ []))
new_array_asks m (Some p) e = along m (effects.of_kind kinds.Int ∷ []) (a_number kinds.Int ∷ []) (same_number m kinds.Int, tt)
new_array_asks m None e = absurd (e refl)

new_reference_array_asks : (m : Method Act) (c : Option ReferenceType) → Asks m (effects.new_reference_array c) (from_top (a_number kinds.Int ∷ []))
new_reference_array_asks m (Some t) e =
    where_allowed m _ (effects.makes_array (effects.of_kind kinds.Int ∷ []) (array_type (descriptor_of t))) (from_top (a_number kinds.Int ∷ [])) (along m (effects.of_kind kinds.Int ∷ []) (a_number kinds.Int ∷ []) (same_number m kinds.Int, tt)) e
new_reference_array_asks m None e = absurd (e refl)

new_multi_array_asks : (m : Method Act) (n : ℕ) (c : Option ReferenceType) → Asks m (effects.new_multi_array n c) (from_top (by_act.ints n))
new_multi_array_asks m n (Some t) e = where_allowed m _ (effects.makes_array (effects.sizes n) t) (from_top (by_act.ints n)) (along m (effects.sizes n) (by_act.ints n) (along_sizes m n)) e
new_multi_array_asks m n None e = absurd (e refl)

object_asked : (m : Method Act) → AllAsked m (effects.of_type (class_type object_name) ∷ []) (from_top (by_act.an_object ∷ []))
object_asked m = along m (effects.of_type (class_type object_name) ∷ []) (by_act.an_object ∷ []) (of_references m (class_type object_name), tt)

cast_asks : (m : Method Act) (c : Option ReferenceType) → Asks m (effects.check_cast c) (from_top (by_act.an_object ∷ []))
cast_asks m (Some t) e = object_asked m
cast_asks m None e = absurd (e refl)

instance_asks : (m : Method Act) (c : Option ReferenceType) → Asks m (effects.instance_of c) (from_top (by_act.an_object ∷ []))
instance_asks m (Some t) e = object_asked m
instance_asks m None e = absurd (e refl)

number_of_kind : (m : Method Act) (p : Primitive) (k : Kind) → same_kind (computed_as p) k ≡ true → Means m (effects.of_kind k) (typed (primitive p))
number_of_kind m p k same world heap v e = number_of p v (e ∙ ap number (sym (same_kind_is (computed_as p) k same))) world heap

number_returned : (m : Method Act) (t : Option FieldDescriptor) (k : Kind) → Asks m (effects.return_number t k) (from_top (by_act.result t))
number_returned m (Some (primitive p)) k = by (same_kind (computed_as p) k) refl
  where
    by : (b : Bool) → same_kind (computed_as p) k ≡ b → Asks m (effects.where_allowed b (effects.leaves (effects.of_kind k ∷ []))) (from_top (typed (primitive p) ∷ []))
    by true q e = along m (effects.of_kind k ∷ []) (typed (primitive p) ∷ []) (number_of_kind m p k q, tt)
    by false q e = absurd (e refl)
number_returned m (Some (class_descriptor c)) k = λ e. absurd (e refl)
number_returned m (Some (array_descriptor c)) k = λ e. absurd (e refl)
number_returned m None k = λ e. absurd (e refl)

reference_returned : (m : Method Act) (t : Option FieldDescriptor) → Asks m (effects.return_reference t) (from_top (by_act.result t))
reference_returned m (Some (class_descriptor c)) e = along m (effects.of_type (class_type c) ∷ []) (typed (class_descriptor c) ∷ []) (of_references m (class_type c), tt)
reference_returned m (Some (array_descriptor c)) e = along m (effects.of_type (array_type c) ∷ []) (typed (array_descriptor c) ∷ []) (of_references m (array_type c), tt)
reference_returned m (Some (primitive p)) e = absurd (e refl)
reference_returned m None e = absurd (e refl)

-- ---- by act

asks : (m : Method Act) (a : Act) → Asks m (effect m a) (operand_types m a)
asks m (acts.Store k n) e = along m (effects.of_kind k ∷ []) (a_number k ∷ []) (same_number m k, tt)
asks m (acts.StoreReference n) e = along m (effects.some_reference ∷ []) (any_reference ∷ []) (some_reference m, tt)
asks m (acts.Numeric op) e = along m (effects.demands_of_kinds (numeric_row op).taken) (by_act.numbers (numeric_row op).taken) (along_kinds m (numeric_row op).taken)
asks m (acts.IfInt t) e = along m (effects.of_kind kinds.Int ∷ []) (a_number kinds.Int ∷ []) (same_number m kinds.Int, tt)
asks m (acts.IfInts t) e = along m (effects.of_kind kinds.Int ∷ effects.of_kind kinds.Int ∷ []) (a_number kinds.Int ∷ a_number kinds.Int ∷ []) (same_number m kinds.Int, (same_number m kinds.Int, tt))
asks m (acts.IfReferences t) e = along m (effects.some_reference ∷ effects.some_reference ∷ []) (any_reference ∷ any_reference ∷ []) (some_reference m, (some_reference m, tt))
asks m (acts.IfNull t) e = along m (effects.some_reference ∷ []) (any_reference ∷ []) (some_reference m, tt)
asks m (acts.Switch d ts) e = along m (effects.of_kind kinds.Int ∷ []) (a_number kinds.Int ∷ []) (same_number m kinds.Int, tt)
asks m (acts.Return k) e = number_returned m m.type.result k e
asks m acts.ReturnReference e = reference_returned m m.type.result e
asks m (acts.PutStatic i) e = put_static_asks m (field_at m.constant_pool i) e
asks m (acts.GetField i) e = get_field_asks m (field_at m.constant_pool i) e
asks m (acts.PutField i) e = put_field_asks m (field_at m.constant_pool i) e
asks m (acts.InvokeVirtual i) e = virtual_asks m (method_at m.constant_pool i) e
asks m (acts.InvokeInterface i n) e = interface_asks m n (method_at m.constant_pool i) e
asks m (acts.InvokeSpecial i) e = special_asks m m.major_version m.class (method_at m.constant_pool i) e
asks m (acts.InvokeStatic i) e = static_asks m m.major_version (method_at m.constant_pool i) e
asks m (acts.InvokeDynamic i) e = site_asks m (call_site_at m.constant_pool i) e
asks m (acts.LoadElement p) e = along m (effects.of_kind kinds.Int ∷ effects.some_array_for p ∷ []) (a_number kinds.Int ∷ array_for p ∷ []) (same_number m kinds.Int, (some_array_for m p, tt))
asks m (acts.StoreElement p) e =
    along m (effects.of_kind (computed_as p) ∷ effects.of_kind kinds.Int ∷ effects.some_array_for p ∷ []) (a_number (kind_of p) ∷ a_number kinds.Int ∷ array_for p ∷ [])
    ((λ world heap v k. k ∙ ap number (sym (computed_so p))), (same_number m kinds.Int, (some_array_for m p, tt)))
asks m acts.LoadReferenceElement e = along m (effects.of_kind kinds.Int ∷ effects.of_type effects.objects ∷ []) (a_number kinds.Int ∷ by_act.objects ∷ []) (same_number m kinds.Int, (of_references m effects.objects, tt))
asks m acts.StoreReferenceElement e =
    along m (effects.of_type (class_type object_name) ∷ effects.of_kind kinds.Int ∷ effects.of_type effects.objects ∷ []) (by_act.an_object ∷ a_number kinds.Int ∷ by_act.objects ∷ [])
    (of_references m (class_type object_name), (same_number m kinds.Int, (of_references m effects.objects, tt)))
asks m acts.ArrayLength e = along m (effects.some_array ∷ []) (any_array ∷ []) (some_array m, tt)
asks m (acts.NewArray p) e = new_array_asks m p e
asks m (acts.NewReferenceArray i) e = new_reference_array_asks m (class_at m.constant_pool i) e
asks m (acts.NewMultiArray i n) e = new_multi_array_asks m n (class_at m.constant_pool i) e
asks m (acts.CheckCast i) e = cast_asks m (class_at m.constant_pool i) e
asks m (acts.InstanceOf i) e = instance_asks m (class_at m.constant_pool i) e
asks m acts.Throw e = along m (effects.of_type (class_type throwable_name) ∷ []) (typed (class_descriptor throwable_name) ∷ []) (of_references m (class_type throwable_name), tt)
asks m acts.Monitor e = along m (effects.some_reference ∷ []) (any_reference ∷ []) (some_reference m, tt)
asks m _ e = none_asked m _

-- ---- local variables

units_agree : (k : Kind) → units_of_kind k ≡ kind_units k
units_agree kinds.Int = refl
units_agree kinds.Float = refl
units_agree kinds.Long = refl
units_agree kinds.Double = refl

wide_units : (v : Value) → is_wide_value v ≡ true → units_of v ≡ 2
wide_units (number kinds.Int) e = cc
wide_units (number kinds.Float) e = cc
wide_units (number kinds.Long) e = refl
wide_units (number kinds.Double) e = refl
wide_units null e = cc
wide_units (reference a) e = cc

two_units : (v : Value) → units_of v ≡ 2 → is_wide_value v ≡ true
two_units (number kinds.Int) e = absurd (omega (arith, e))
two_units (number kinds.Float) e = absurd (omega (arith, e))
two_units (number kinds.Long) e = refl
two_units (number kinds.Double) e = refl
two_units null e = absurd (omega (arith, e))
two_units (reference a) e = absurd (omega (arith, e))

same_slot : (s t : Slot) → Some s ≡ Some t → s ≡ t
same_slot s t e = cc

held : (u v : Value) → Some (holds u) ≡ Some (holds v) → u ≡ v
held u v e = cc

next_is_second : (ss : List Slot) → ArePairedBehind true ss → slice_get ss 0 ≡ Some second
next_is_second [] p = elim p [ ]
next_is_second (second ∷ ss) p = refl
next_is_second (empty ∷ ss) p = elim p [ ]
next_is_second (holds v ∷ ss) p = elim p [ ]

pairs_at : (wide : Bool) (ss : List Slot) → ArePairedBehind wide ss → (n : ℕ) (v : Value) → slice_get ss n ≡ Some (holds v) → units_of v ≡ 2 → IsPair ss n
pairs_at wide [] p n v e k = cc
pairs_at true (second ∷ ss) p zero v e k = cc
pairs_at true (second ∷ ss) p (suc n) v e k = pairs_at false ss p n v e k
pairs_at true (empty ∷ ss) p n v e k = elim p [ ]
pairs_at true (holds u ∷ ss) p n v e k = elim p [ ]
pairs_at false (second ∷ ss) p n v e k = elim p [ ]
pairs_at false (empty ∷ ss) p zero v e k = cc
pairs_at false (empty ∷ ss) p (suc n) v e k = pairs_at false ss p n v e k
pairs_at false (holds u ∷ ss) p zero v e k =
    let q : is_wide_value u ≡ true = two_units u (ap units_of (held u v e) ∙ k) in
    (u, refl, ap units_of (held u v e) ∙ k, next_is_second ss (subst (λ b. ArePairedBehind b ss) q p))
pairs_at false (holds u ∷ ss) p (suc n) v e k = pairs_at (is_wide_value u) ss p n v e k

-- the second half of what is before the list, or of a local variable in it
abbrev SecondOf : Bool → List Slot → ℕ → Type 0
SecondOf wide ss n = ((n ≡ 0) × (wide ≡ true)) ⊎ ((k : ℕ) × (n ≡ suc k) × IsPair ss k)

later : (wide : Bool) (s : Slot) (ss : List Slot) (n : ℕ) → SecondOf false ss n → SecondOf wide (s ∷ ss) (suc n)
later wide s ss n (inl e) = let q : false ≡ true = e.1 in cc
later wide s ss n (inr (k, e, p)) = inr (suc k, ap suc e, p)

second_of : (wide : Bool) (ss : List Slot) → ArePairedBehind wide ss → (n : ℕ) → slice_get ss n ≡ Some second → SecondOf wide ss n
second_of wide [] p n e = cc
second_of true (second ∷ ss) p zero e = inl (refl, refl)
second_of true (second ∷ ss) p (suc n) e = later true second ss n (second_of false ss p n e)
second_of true (empty ∷ ss) p n e = elim p [ ]
second_of true (holds u ∷ ss) p n e = elim p [ ]
second_of false (second ∷ ss) p n e = elim p [ ]
second_of false (empty ∷ ss) p zero e = cc
second_of false (empty ∷ ss) p (suc n) e = later false empty ss n (second_of false ss p n e)
second_of false (holds u ∷ ss) p zero e = cc
second_of false (holds u ∷ ss) p (suc n) e = by (second_of (is_wide_value u) ss p n e)
  where
    by : SecondOf (is_wide_value u) ss n → SecondOf false (holds u ∷ ss) (suc n)
    by (inl (at, wide)) = inr (0, ap suc at, (u, refl, wide_units u wide, subst (λ z. slice_get ss z ≡ Some second) at e))
    by (inr (k, at, p)) = inr (suc k, ap suc at, p)

seconds : (ss : List Slot) → ArePairedBehind false ss → (n : ℕ) → slice_get ss n ≡ Some second → (k : ℕ) × (n ≡ suc k) × IsPair ss k
seconds ss p n e = by (second_of false ss p n e)
  where
    by : SecondOf false ss n → (k : ℕ) × (n ≡ suc k) × IsPair ss k
    by (inl k) = let q : false ≡ true = k.1 in cc
    by (inr k) = k

module _ (world : World) (m : Method Act) (s : State) where
  abbrev Read : ℕ → Wanted → Type 0
  Read n w = (v : Value) × (slice_get s.locals n ≡ Some (holds v)) × IsWanted world m s.heap w v

  one_pair : (a b : ℕ × Wanted) → Some a ≡ Some b → a ≡ b
  one_pair a b e = cc

  abbrev one_read : ℕ → Wanted → Option (ℕ × Wanted)
  one_read n w = Some (n, w)

  read_so : (k n : ℕ) (u w : Wanted) → one_read k u ≡ one_read n w → Read k u → Read n w
  read_so k n u w e x = subst (λ z. Read z.0 z.1) (one_pair (k, u) (n, w) e) x

  read : (act : Act) (n : ℕ) (w : Wanted) → local_read act ≡ Some (n, w) → MeetsRest world m (effect m act) s → Read n w
  read (acts.Load kind k) n w e x = read_so k n (a_number kind) w e (x.value, x.here, x.meets)
  read (acts.LoadReference k) n w e x = read_so k n any_reference w e (x.value, x.here, some_reference m world s.heap x.value x.meets)
  read (acts.Increment k) n w e x = read_so k n (a_number kinds.Int) w e (x.value, x.here, x.meets)
  read _ n w e x = cc

  stored : (act : Act) → MeetsRest world m (effect m act) s → length s.locals ≡ m.max_locals → locals_stored_to act ≤ length s.locals
  stored (acts.Store kind n) x e = omega (arith, x, e, units_agree kind)
  stored (acts.StoreReference n) x e = omega (arith, x, e)
  stored _ x e = omega arith

  -- ---- calls

  beneath_at : (ns : List Demand) (vs rest : List Value) (v : Value) → beneath ns vs ≡ v ∷ rest → slice_get vs (length ns) ≡ Some v
  beneath_at [] vs rest v e = ap (λ z. slice_get z 0) e
  beneath_at (n ∷ ns) [] rest v e = cc
  beneath_at (n ∷ ns) (u ∷ vs) rest v e = beneath_at ns vs rest v e

  received : (c : MethodConstant) (name : List ℕ) → c.class ≡ class_type name → HasReceiver m name (effects.arguments_on c.type.params []) s → HasConstructed m s c
  received c name e r =
      let long : length (effects.arguments_on c.type.params []) ≡ length c.type.params = let k = arguments_long c.type.params [] in omega (arith, k) in
      record {
        name = name;
        class = e;
        address = r.address;
        here = ap (slice_get s.stack) (sym long) ∙ beneath_at (effects.arguments_on c.type.params []) s.stack r.rest (reference r.address) r.here;
        object = by r.uninitialized;
      }
    where
      by : IsMade s.heap name r.address ⊎ IsOwn m s.heap name r.address → by_act.IsConstructed m s.heap name r.address
      by (inl k) = inl k.here
      by (inr k) = inr ((k.type, k.here), k.class_of)

  constructed : (c : MethodConstant) (r : ReferenceType) → c.class ≡ r → MeetsRest world m (effects.constructor_call c r) s → HasConstructed m s c
  constructed c (array_type t) e x = elim x [ ]
  constructed c (class_type name) e x = by (not c.interface && effects.has_room_for_receiver c) x
    where
      by : (b : Bool) → MeetsRest world m (effects.where_allowed b (effects.initializes name (effects.arguments_on c.type.params []))) s → HasConstructed m s c
      by true k = received c name e k
      by false k = elim k [ ]

  same_method : (c d : MethodConstant) → Some d ≡ Some c → d ≡ c
  same_method c d e = cc

  init_called : (n : ℕ) (o : Option MethodConstant) (c : MethodConstant) → constructor_of o ≡ Some c → MeetsRest world m (effects.invoke_special n m.class o) s → HasConstructed m s c
  init_called n None c e x = cc
  init_called n (Some d) c e x = by (effects.is_init_name d) e x
    where
      by : (b : Bool) → (if b then Some d else None) ≡ Some c → MeetsRest world m (if b then effects.constructor_call d d.class else effects.special_call n m.class d) s → HasConstructed m s c
      by true q k = subst (HasConstructed m s) (same_method c d q) (constructed d d.class refl k)
      by false q k = cc

  below_special : (n : ℕ) (c : MethodConstant) → MeetsRest world m (effects.special_call n m.class c) s → IsBelow world (class_type m.class) c.class
  below_special n c x = by (is_class_type c.class && (effects.has_room_for_receiver c && effects.may_name n c.interface)) x
    where
      by : (b : Bool) → MeetsRest world m (effects.where_allowed b (effects.calls_special c.class (effects.arguments_on c.type.params (effects.of_type (class_type m.class) ∷ [])) (Some (length c.type.params)) (effects.reply_of c.type.result))) s → IsBelow world (class_type m.class) c.class
      by true k = k
      by false k = elim k [ ]

  other_called : (n : ℕ) (o : Option MethodConstant) (c : MethodConstant) → other_than_init o ≡ Some c → MeetsRest world m (effects.invoke_special n m.class o) s → IsBelow world (class_type m.class) c.class
  other_called n None c e x = cc
  other_called n (Some d) c e x = by (effects.is_init_name d) e x
    where
      by : (b : Bool) → (if b then None else Some d) ≡ Some c → MeetsRest world m (if b then effects.constructor_call d d.class else effects.special_call n m.class d) s → IsBelow world (class_type m.class) c.class
      by true q k = cc
      by false q k = subst (λ z. IsBelow world (class_type m.class) z.class) (same_method c d q) (below_special n d k)

  constructor_ready : (act : Act) (c : MethodConstant) → constructor_called m act ≡ Some c → MeetsRest world m (effect m act) s → HasConstructed m s c
  constructor_ready (acts.InvokeSpecial i) c e x = init_called m.major_version (method_at m.constant_pool i) c e x
  constructor_ready _ c e x = cc

  special_below : (act : Act) (c : MethodConstant) → special_called m act ≡ Some c → MeetsRest world m (effect m act) s → IsBelow world (class_type m.class) c.class
  special_below (acts.InvokeSpecial i) c e x = other_called m.major_version (method_at m.constant_pool i) c e x
  special_below _ c e x = cc

  -- ---- returns

  number_result : (t : Option FieldDescriptor) (k : Kind) → (effects.return_number t k ≡ stuck → ⊥) → (p : Primitive) × (t ≡ Some (primitive p)) × (kind_of p ≡ k)
  number_result (Some (primitive p)) k = by (same_kind (computed_as p) k) refl
    where
      by : (b : Bool) → same_kind (computed_as p) k ≡ b → (effects.where_allowed b (effects.leaves (effects.of_kind k ∷ [])) ≡ stuck → ⊥) → (q : Primitive) × (Some (primitive p) ≡ Some (primitive q)) × (kind_of q ≡ k)
      by true q e = (p, refl, computed_so p ∙ same_kind_is (computed_as p) k q)
      by false q e = absurd (e refl)
  number_result (Some (class_descriptor c)) k = λ e. absurd (e refl)
  number_result (Some (array_descriptor c)) k = λ e. absurd (e refl)
  number_result None k = λ e. absurd (e refl)

  reference_result : (t : Option FieldDescriptor) → (effects.return_reference t ≡ stuck → ⊥) → (u : FieldDescriptor) × (t ≡ Some u) × IsOfReferences u
  reference_result (Some (class_descriptor c)) e = (class_descriptor c, refl, tt)
  reference_result (Some (array_descriptor c)) e = (array_descriptor c, refl, tt)
  reference_result (Some (primitive p)) e = absurd (e refl)
  reference_result None e = absurd (e refl)

  no_result : (t : Option FieldDescriptor) → (effects.return_nothing t ≡ stuck → ⊥) → t ≡ None
  no_result None e = refl
  no_result (Some t) e = absurd (e refl)

  returned : (act : Act) → (effect m act ≡ stuck → ⊥) → ReturnsResult m act
  returned (acts.Return k) e = number_result m.type.result k e
  returned acts.ReturnReference e = reference_result m.type.result e
  returned acts.ReturnVoid e = no_result m.type.result e
  returned _ e = tt

  -- ---- all of it

  items : (act : Act) (op : StackOperator) → act ≡ acts.Stack op → MeetsRest world m (effect m act) s → (moved : List Value) × AreMoved op s.stack moved
  items act op e x =
      let k = subst (λ a. MeetsRest world m (effect m a) s) e x in
      let y = (forms_move_units op).each k.form k.among in
      (rearranged k.form s.stack, are_moved op k.form y.0 y.1 s.stack (rearranged k.form s.stack) y.2 k.fits refl)

  is_typed : (act : Act) → HasOperands world m s act → IsTyped world m s act
  is_typed act o =
      let not_stuck : effect m act ≡ stuck → ⊥ = λ e. subst (λ t. MeetsRest world m t s) e o.others in
      record {
        operands = λ place w i.
            let x = asks m act not_stuck place w i in
            let y = met_at world s.heap (demands_of (effect m act)) s.stack place x.demand o.operands x.here in
            (y.0, y.1, x.means world s.heap y.0 y.2);
        items = λ op e. items act op e o.others;
        read = λ n w e. read act n w e o.others;
        stored = stored act o.others o.all_locals;
        all_locals = o.all_locals;
        wide = pairs_at false s.locals o.paired;
        seconds = seconds s.locals o.paired;
        constructed = λ c e. constructor_ready act c e o.others;
        special = λ c e. special_below act c e o.others;
        returned = returned act not_stuck;
      }

pub operands_are_typed : OperandsAreTyped
operands_are_typed world m s act o = is_typed world m s act o

pub own_object_is_done : OwnObjectIsDone
own_object_is_done m s none l init a x e = subst (λ t. EndsReady m (effects.return_nothing t) s) none l.own init a x e
