-- The operands that an instruction uses are those that its effect wants ready.
use Rattle.std.proofs.Common.{◌≡◌, ℕ, zero, suc, ◌+◌, Bool, true, false, ◌&&◌, List, [], ◌∷◌, ◌++◌, length, slice_get, Option, Some, None, if◌then◌else◌, ◌⊎◌, inl, inr, refl, sym, ap, ◌∙◌, subst, arith}
use Rattle.names.specs.declared.base.Primitive.{Primitive}
use Rattle.names.specs.Descriptors.{FieldDescriptor, primitive, class as class_descriptor, array as array_descriptor}
use Rattle.names.specs.ReferenceTypes.{ReferenceType, class_type, array_type}
use Rattle.pool.specs.ConstantMeanings.{class_at, FieldConstant, field_at, MethodConstant, method_at, CallSite, call_site_at}
use Rattle.classfile.specs.Methods.{Method, is_own_field}
use Rattle.hierarchy.specs.World.{World}
use Rattle.insn.specs.Meanings as acts
use Rattle.insn.specs.Meanings.{Act}
use Rattle.insn.specs.Offsets.{IsAmong}
use Rattle.machine.specs.Values.{Value, number, null, reference}
use Rattle.machine.specs.Heap.{this, object, Heap, FitsReference, IsThis}
use Rattle.machine.specs.Effects as effects
use Rattle.machine.specs.Effects.{Demand, Effect, effect, stuck, demands_of}
use Rattle.machine.specs.Demands.{State, Meets, AllMeet, MeetsRest, IsUsable, AllUsable, HasOperands, UsesReady}
use Rattle.machine.specs.ByAct.{other_than_init}
use Rattle.machine.specs.Uses.{with_place, argument_places, arguments_used, receiver_used, value_used, used, field_set, IsInitialized, MayBeSet, IsNullOr, UsesInitialized, UsesNoOther, OperandsAreInitialized, ObjectsAreInitialized, site_arguments_used}

-- ---- demands that are met by null or by an object that is ready alone

abbrev IsReadyDemand : Demand → Type 0
IsReadyDemand (effects.of_type type) = Unit {0}
IsReadyDemand effects.some_array = Unit {0}
IsReadyDemand (effects.some_array_for p) = Unit {0}
IsReadyDemand _ = ⊥

ready_met : (w : World) (h : Heap) (n : Demand) (v : Value) → IsReadyDemand n → Meets w h n v → IsNullOr (IsInitialized h) (Some v)
ready_met w h (effects.of_type t) (number k) r e = elim e [ ]
ready_met w h (effects.of_type t) null r e = inl refl
ready_met w h (effects.of_type t) (reference a) r e = inr (a, refl, (e.0, e.1))
ready_met w h effects.some_array (number k) r e = elim e [ ]
ready_met w h effects.some_array null r e = inl refl
ready_met w h effects.some_array (reference a) r e = inr (a, refl, (e.0, e.1))
ready_met w h (effects.some_array_for p) (number k) r e = elim e [ ]
ready_met w h (effects.some_array_for p) null r e = inl refl
ready_met w h (effects.some_array_for p) (reference a) r e = inr (a, refl, (e.0, e.1))
ready_met w h (effects.of_kind k) v r e = elim r [ ]
ready_met w h effects.some_reference v r e = elim r [ ]
ready_met w h (effects.own_or_of c) v r e = elim r [ ]

ready_used : (h : Heap) (n : Demand) (a : ℕ) → IsReadyDemand n → IsUsable h n (reference a) → IsInitialized h a
ready_used h (effects.of_type t) a r e = e
ready_used h effects.some_array a r e = e
ready_used h (effects.some_array_for p) a r e = e
ready_used h (effects.of_kind k) a r e = elim r [ ]
ready_used h effects.some_reference a r e = elim r [ ]
ready_used h (effects.own_or_of c) a r e = elim r [ ]

-- ---- by place

pub met_at : (w : World) (h : Heap) (ns : List Demand) (vs : List Value) (i : ℕ) (n : Demand) → AllMeet w h ns vs → slice_get ns i ≡ Some n
    → (v : Value) × (slice_get vs i ≡ Some v) × Meets w h n v
met_at w h [] vs i n m e = cc
met_at w h (k ∷ ns) [] i n m e = elim m [ ]
met_at w h (k ∷ ns) (v ∷ vs) zero n m e = let q : k ≡ n = cc in (v, refl, subst (λ z. Meets w h z v) q m.0)
met_at w h (k ∷ ns) (v ∷ vs) (suc i) n m e = met_at w h ns vs i n m.1 e

usable_at : (h : Heap) (ns : List Demand) (vs : List Value) (i : ℕ) (n : Demand) (v : Value) → AllUsable h ns vs → slice_get ns i ≡ Some n → slice_get vs i ≡ Some v
    → IsUsable h n v
usable_at h [] vs i n v m e d = cc
usable_at h (k ∷ ns) [] i n v m e d = cc
usable_at h (k ∷ ns) (u ∷ vs) zero n v m e d =
    let q : k ≡ n = cc in
    let r : u ≡ v = cc in
    subst (λ z. IsUsable h z v) q (subst (λ z. IsUsable h k z) r m.0)
usable_at h (k ∷ ns) (u ∷ vs) (suc i) n v m e d = usable_at h ns vs i n v m.1 e d

-- ---- each place that an act uses has such a demand

pub record Wants (ns : List Demand) (place : ℕ) : Type 0 where
  pub demand : Demand
  pub here : slice_get ns place ≡ Some demand
  pub ready : IsReadyDemand demand

abbrev AllWanted : List ℕ → List Demand → Type 0
AllWanted places ns = (place : ℕ) → IsAmong place places → Wants ns place

no_place : (ns : List Demand) → AllWanted [] ns
no_place ns place i = elim i [ ]

one_place : (ns : List Demand) (at : ℕ) → Wants ns at → AllWanted (at ∷ []) ns
one_place ns at x place (inl e) = subst (Wants ns) (sym e) x
one_place ns at x place (inr e) = elim e [ ]

two_places : (ns : List Demand) (at : ℕ) (others : List ℕ) → Wants ns at → AllWanted others ns → AllWanted (at ∷ others) ns
two_places ns at others x y place (inl e) = subst (Wants ns) (sym e) x
two_places ns at others x y place (inr e) = y place e

typed : (ns : List Demand) (at : ℕ) (t : ReferenceType) → slice_get ns at ≡ Some (effects.of_type t) → Wants ns at
typed ns at t e = record { demand = effects.of_type t; here = e; ready = tt }

both_wanted : (places others : List ℕ) (ns : List Demand) → AllWanted places ns → AllWanted others ns → AllWanted (places ++ others) ns
both_wanted [] others ns x y = y
both_wanted (p ∷ places) others ns x y =
    two_places ns p (places ++ others) (x p (inl refl)) (both_wanted places others ns (λ k i. x k (inr i)) y)

-- ---- arguments

-- what stands beneath the arguments
pub beneath_them : (ts : List FieldDescriptor) (ns : List Demand) (k : ℕ) → slice_get (effects.arguments_on ts ns) (length ts + k) ≡ slice_get ns k
beneath_them [] ns k = ap (slice_get ns) (omega arith)
beneath_them (t ∷ ts) ns k =
    let at : suc (length ts) + k ≡ length ts + suc k = omega arith in
    ap (slice_get (effects.arguments_on ts (effects.demand_of t ∷ ns))) at ∙ beneath_them ts (effects.demand_of t ∷ ns) (suc k)

with_place_wanted : (t : FieldDescriptor) (at : ℕ) (others : List ℕ) (ns : List Demand) → slice_get ns at ≡ Some (effects.demand_of t) → AllWanted others ns
    → AllWanted (with_place t at others) ns
with_place_wanted (primitive p) at others ns e x = x
with_place_wanted (class_descriptor c) at others ns e x = two_places ns at others (typed ns at (class_type c) e) x
with_place_wanted (array_descriptor c) at others ns e x = two_places ns at others (typed ns at (array_type c) e) x

arguments_wanted : (ts : List FieldDescriptor) (ns : List Demand) → AllWanted (argument_places ts) (effects.arguments_on ts ns)
arguments_wanted [] ns = no_place ns
arguments_wanted (t ∷ ts) ns =
    let at : length ts ≡ length ts + 0 = omega arith in
    let first : slice_get (effects.arguments_on ts (effects.demand_of t ∷ ns)) (length ts) ≡ Some (effects.demand_of t) =
    ap (slice_get (effects.arguments_on ts (effects.demand_of t ∷ ns))) at ∙ beneath_them ts (effects.demand_of t ∷ ns) 0 in
    with_place_wanted t (length ts) (argument_places ts) (effects.arguments_on ts (effects.demand_of t ∷ ns)) first (arguments_wanted ts (effects.demand_of t ∷ ns))

receiver_wanted : (ts : List FieldDescriptor) (t : ReferenceType) → AllWanted (length ts ∷ []) (effects.arguments_on ts (effects.of_type t ∷ []))
receiver_wanted ts t =
    let at : length ts ≡ length ts + 0 = omega arith in
    let ns = effects.arguments_on ts (effects.of_type t ∷ []) in
    one_place ns (length ts) (typed ns (length ts) t (ap (slice_get ns) at ∙ beneath_them ts (effects.of_type t ∷ []) 0))

-- arguments on a receiver
called_wanted : (c : MethodConstant) (t : ReferenceType)
    → AllWanted (receiver_used (Some c) ++ arguments_used (Some c)) (effects.arguments_on c.type.params (effects.of_type t ∷ []))
called_wanted c t = both_wanted (length c.type.params ∷ []) (argument_places c.type.params) (effects.arguments_on c.type.params (effects.of_type t ∷ [])) (receiver_wanted c.type.params t) (arguments_wanted c.type.params (effects.of_type t ∷ []))

-- ---- by family, unless the effect is none

abbrev Uses : Effect → List ℕ → Type 0
Uses t places = (t ≡ stuck → ⊥) → AllWanted places (demands_of t)

where_allowed : (b : Bool) (t : Effect) (places : List ℕ) → AllWanted places (demands_of t) → Uses (effects.where_allowed b t) places
where_allowed true t places x e = x
where_allowed false t places x e = absurd (e refl)

put_static_uses : (c : Option FieldConstant) → Uses (effects.put_static c) (value_used c)
put_static_uses (Some f) e = with_place_wanted f.type 0 [] (effects.demand_of f.type ∷ []) refl (no_place _)
put_static_uses None e = absurd (e refl)

put_field_uses : (m : Method Act) (c : Option FieldConstant) → Uses (effects.put_field m c) (value_used c)
put_field_uses m (Some f) e = with_place_wanted f.type 0 [] (effects.demand_of f.type ∷ effects.target_of m f ∷ []) refl (no_place _)
put_field_uses m None e = absurd (e refl)

get_field_uses : (c : Option FieldConstant) → Uses (effects.get_field c) (0 ∷ [])
get_field_uses (Some f) e = one_place _ 0 (typed (effects.of_type (class_type f.class) ∷ []) 0 (class_type f.class) refl)
get_field_uses None e = absurd (e refl)

static_uses : (n : ℕ) (c : Option MethodConstant) → Uses (effects.invoke_static n c) (arguments_used c)
static_uses n (Some c) e = where_allowed _ (effects.static_call c) (argument_places c.type.params) (arguments_wanted c.type.params []) e
static_uses n None e = absurd (e refl)

site_uses : (m : Method Act) (c : Option CallSite) → Uses (effects.invoke_dynamic m c) (site_arguments_used c)
site_uses m (Some c) e = where_allowed _ (effects.call_of c.type) (argument_places c.type.params) (arguments_wanted c.type.params []) e
site_uses m None e = absurd (e refl)

virtual_uses : (c : Option MethodConstant) → Uses (effects.invoke_virtual c) (receiver_used c ++ arguments_used c)
virtual_uses (Some c) e = where_allowed _ (effects.call_on c.class c) (receiver_used (Some c) ++ arguments_used (Some c)) (called_wanted c c.class) e
virtual_uses None e = absurd (e refl)

interface_uses : (n : ℕ) (c : Option MethodConstant) → Uses (effects.invoke_interface n c) (receiver_used c ++ arguments_used c)
interface_uses n (Some c) e = where_allowed _ (effects.call_on c.class c) (receiver_used (Some c) ++ arguments_used (Some c)) (called_wanted c c.class) e
interface_uses n None e = absurd (e refl)

constructor_uses : (c : MethodConstant) (r : ReferenceType) → Uses (effects.constructor_call c r) (argument_places c.type.params)
constructor_uses c (class_type name) e = where_allowed _ (effects.initializes name (effects.arguments_on c.type.params [])) (argument_places c.type.params) (arguments_wanted c.type.params []) e
constructor_uses c (array_type component) e = absurd (e refl)

special_uses : (n : ℕ) (me : List ℕ) (c : Option MethodConstant) → Uses (effects.invoke_special n me c) (receiver_used (other_than_init c) ++ arguments_used c)
special_uses n me (Some c) = by (effects.is_init_name c)
  where
    by : (b : Bool) → Uses (if b then effects.constructor_call c c.class else effects.special_call n me c) (receiver_used (if b then None else Some c) ++ arguments_used (Some c))
    by true = constructor_uses c c.class
    by false = λ e. where_allowed _ (effects.calls_special c.class _ _ _) (receiver_used (Some c) ++ arguments_used (Some c)) (called_wanted c (class_type me)) e
special_uses n me None = λ e. absurd (e refl)

cast_uses : (c : Option ReferenceType) → Uses (effects.check_cast c) (0 ∷ [])
cast_uses (Some t) e = one_place _ 0 (typed _ 0 (class_type _) refl)
cast_uses None e = absurd (e refl)

instance_uses : (c : Option ReferenceType) → Uses (effects.instance_of c) (0 ∷ [])
instance_uses (Some t) e = one_place _ 0 (typed _ 0 (class_type _) refl)
instance_uses None e = absurd (e refl)

returned_uses : (t : Option FieldDescriptor) → Uses (effects.return_reference t) (0 ∷ [])
returned_uses (Some (class_descriptor c)) e = one_place _ 0 (typed (effects.of_type (class_type c) ∷ []) 0 (class_type c) refl)
returned_uses (Some (array_descriptor c)) e = one_place _ 0 (typed (effects.of_type (array_type c) ∷ []) 0 (array_type c) refl)
returned_uses (Some (primitive p)) e = absurd (e refl)
returned_uses None e = absurd (e refl)

wants_array : (ns : List Demand) (at : ℕ) (p : Primitive) → slice_get ns at ≡ Some (effects.some_array_for p) → Wants ns at
wants_array ns at p e = record { demand = effects.some_array_for p; here = e; ready = tt }

-- ---- by act

pub uses : (m : Method Act) (a : Act) → Uses (effect m a) (used m a)
uses m (acts.GetField i) e = get_field_uses (field_at m.constant_pool i) e
uses m (acts.PutField i) e = put_field_uses m (field_at m.constant_pool i) e
uses m (acts.PutStatic i) e = put_static_uses (field_at m.constant_pool i) e
uses m (acts.InvokeVirtual i) e = virtual_uses (method_at m.constant_pool i) e
uses m (acts.InvokeInterface i n) e = interface_uses n (method_at m.constant_pool i) e
uses m (acts.InvokeSpecial i) e = special_uses m.major_version m.class (method_at m.constant_pool i) e
uses m (acts.InvokeStatic i) e = static_uses m.major_version (method_at m.constant_pool i) e
uses m (acts.InvokeDynamic i) e = site_uses m (call_site_at m.constant_pool i) e
uses m (acts.LoadElement p) e = one_place _ 1 (wants_array (demands_of (effect m (acts.LoadElement p))) 1 p refl)
uses m (acts.StoreElement p) e = one_place _ 2 (wants_array (demands_of (effect m (acts.StoreElement p))) 2 p refl)
uses m acts.LoadReferenceElement e = one_place _ 1 (typed (demands_of (effect m acts.LoadReferenceElement)) 1 effects.objects refl)
uses m acts.StoreReferenceElement e =
    let ns = demands_of (effect m acts.StoreReferenceElement) in
    two_places ns 0 (2 ∷ []) (typed ns 0 (class_type _) refl) (one_place ns 2 (typed ns 2 effects.objects refl))
uses m acts.ArrayLength e = one_place _ 0 (record { demand = effects.some_array; here = refl; ready = tt })
uses m (acts.CheckCast i) e = cast_uses (class_at m.constant_pool i) e
uses m (acts.InstanceOf i) e = instance_uses (class_at m.constant_pool i) e
uses m acts.Throw e = one_place _ 0 (typed (demands_of (effect m acts.Throw)) 0 (class_type _) refl)
uses m acts.ReturnReference e = returned_uses m.type.result e
uses m _ e = no_place _

-- ---- the object whose field is set

set_wanted : (m : Method Act) (act : Act) (f : FieldConstant) → field_set m act ≡ Some f → slice_get (demands_of (effect m act)) 1 ≡ Some (effects.target_of m f)
set_wanted m (acts.PutField i) f e = ap (λ c. slice_get (demands_of (effects.put_field m c)) 1) e
set_wanted m _ f e = cc

pub both_true : (b c : Bool) → (b && c) ≡ true → (b ≡ true) × (c ≡ true)
both_true true true e = (refl, refl)
both_true true false e = cc
both_true false c e = cc

fits_reference : (w : World) (h : Heap) (c : List ℕ) (v : Value) → FitsReference w h (class_type c) v → IsNullOr (IsInitialized h) (Some v)
fits_reference w h c v e = ready_met w h (effects.of_type (class_type c)) v tt e

may_set : (m : Method Act) (h : Heap) (f : FieldConstant) (v : Value) → IsNullOr (IsInitialized h) (Some v) → IsNullOr (MayBeSet m h f) (Some v)
may_set m h f v (inl e) = inl e
may_set m h f v (inr e) = inr (e.0, e.1, inl e.2)

same_address : (a b : ℕ) → reference a ≡ reference b → a ≡ b
same_address a b e = cc

module _ (w : World) (m : Method Act) (h : Heap) (f : FieldConstant) where
  target_met : (v : Value) → Meets w h (effects.target_of m f) v → IsNullOr (MayBeSet m h f) (Some v)
  target_met v e = by (m.is_init && is_own_field m f) refl e
    where
      own : m.is_init && is_own_field m f ≡ true → FitsReference w h (class_type f.class) v ⊎ IsThis h v → IsNullOr (MayBeSet m h f) (Some v)
      own q (inl fits) = may_set m h f v (fits_reference w h f.class v fits)
      own q (inr it) = let k = both_true m.is_init (is_own_field m f) q in inr (it.0, ap Some it.2, inr (k.0, k.1, (it.1, it.3)))

      by : (b : Bool) → m.is_init && is_own_field m f ≡ b → Meets w h (if b then effects.own_or_of f.class else effects.of_type (class_type f.class)) v → IsNullOr (MayBeSet m h f) (Some v)
      by true q k = own q k
      by false q k = may_set m h f v (fits_reference w h f.class v k)

  target_used : (a : ℕ) → IsUsable h (effects.target_of m f) (reference a) → MayBeSet m h f a
  target_used a e = by (m.is_init && is_own_field m f) refl e
    where
      own : m.is_init && is_own_field m f ≡ true → IsInitialized h a ⊎ IsThis h (reference a) → MayBeSet m h f a
      own q (inl k) = inl k
      own q (inr it) =
          let k = both_true m.is_init (is_own_field m f) q in
          inr (k.0, k.1, (it.1, subst (λ z. h z ≡ Some (object it.1 this)) (sym (same_address a it.0 it.2)) it.3))

      by : (b : Bool) → m.is_init && is_own_field m f ≡ b → IsUsable h (if b then effects.own_or_of f.class else effects.of_type (class_type f.class)) (reference a) → MayBeSet m h f a
      by true q k = own q k
      by false q k = inl k

-- ---- the laws

module _ (w : World) (m : Method Act) (act : Act) where
  not_stuck : (s : State) → HasOperands w m s act → effect m act ≡ stuck → ⊥
  not_stuck s o e = subst (λ t. MeetsRest w m t s) e o.others

  used_initialized : (s : State) → HasOperands w m s act → UsesInitialized m s act
  used_initialized s o = record {
    operands = λ place i.
        let x = uses m act (not_stuck s o) place i in
        let y = met_at w s.heap (demands_of (effect m act)) s.stack place x.demand o.operands x.here in
        subst (λ z. IsNullOr (IsInitialized s.heap) z) (sym y.1) (ready_met w s.heap x.demand y.0 x.ready y.2);
    set = λ f e.
        let y = met_at w s.heap (demands_of (effect m act)) s.stack 1 (effects.target_of m f) o.operands (set_wanted m act f e) in
        subst (λ z. IsNullOr (MayBeSet m s.heap f) z) (sym y.1) (target_met w m s.heap f y.0 y.2);
  }

  used_no_other : (some s : State) → HasOperands w m some act → UsesReady m s act → UsesNoOther m s act
  used_no_other some s o u = record {
    operands = λ place a i e.
        let x = uses m act (not_stuck some o) place i in
        ready_used s.heap x.demand a x.ready (usable_at s.heap (demands_of (effect m act)) s.stack place x.demand (reference a) u.uses x.here e);
    set = λ f a e d. target_used w m s.heap f a (usable_at s.heap (demands_of (effect m act)) s.stack 1 (effects.target_of m f) (reference a) u.uses (set_wanted m act f e) d);
  }

pub operands_are_initialized : OperandsAreInitialized
operands_are_initialized w m s act o = used_initialized w m act s o

pub objects_are_initialized : ObjectsAreInitialized
objects_are_initialized w m some s act o u = used_no_other w m act some s o u
