-- The places that instructions read and store to, and the values of a place, in the words of the laws.
use Rattle.std.proofs.Common.{◌≡◌, ℕ, zero, suc, Bool, true, false, nat_eq, List, [], ◌∷◌, drop, slice_get, Option, Some, None, option_map, ◌⊎◌, inl, inr, sym, ap, refl, ◌∙◌, subst, eqb-true}
use Rattle.names.specs.declared.base.Primitive.{Primitive}
use Rattle.names.specs.declared.base.Primitive.TheVariants as primitives
use Rattle.names.specs.Descriptors.{FieldDescriptor, primitive, class, array}
use Rattle.names.specs.ReferenceTypes.{ReferenceType, class_type, array_type}
use Rattle.pool.specs.ConstantMeanings.{FieldConstant, field_at}
use Rattle.classfile.specs.Methods.{Method}
use Rattle.hierarchy.specs.World.{World}
use Rattle.insn.specs.declared.kinds.Kind.{Kind}
use Rattle.insn.specs.Kinds.{computed_as}
use Rattle.insn.specs.Meanings as acts
use Rattle.insn.specs.Meanings.{Act}
use Rattle.insn.specs.Offsets.{IsAmong}
use Rattle.machine.specs.Values.{Value, number, null, reference}
use Rattle.machine.specs.Heap.{ready, object, Heap, with_object, IsFresh}
use Rattle.machine.specs.ByType.{kind_of}
use Rattle.machine.specs.Breadth.{AreNew}
use Rattle.machine.specs.Effects.{effect}
use Rattle.machine.specs.Steps.{IsNull, IsLive, IsLast}
use Rattle.verify.specs.ClassRuns.{Types, heap_in, called}
use Rattle.verify.specs.HeapRuns.{Place, static_field, field, elements, store, History, component_of, type_at, FitsType, FitsPlace, default_of, IsGiven, Reads, Writes, is_access}
use Rattle.verify.specs.HeapRunBreadth.{address_of, static_place, field_place, element_place, place_read, place_stored_to, operands_of_access, IsOfType, IsValueOf, MayHold, IsDefault}
use Rattle.verify.proofs.safety.ClassCalls.{some_same}
use Rattle.verify.proofs.safety.ClassMoments.{here, there, none_some}
use Rattle.verify.proofs.safety.ClassReturns.{no_get_static, no_put_static, no_get_field, no_put_field}

-- ---- the values of a place

kinds_are : (p : Primitive) → kind_of p ≡ computed_as p
kinds_are primitives.Boolean = refl
kinds_are primitives.Byte = refl
kinds_are primitives.Char = refl
kinds_are primitives.Short = refl
kinds_are primitives.Int = refl
kinds_are primitives.Long = refl
kinds_are primitives.Float = refl
kinds_are primitives.Double = refl

one_primitive : (p q : Primitive) → primitive p ≡ primitive q → p ≡ q
one_primitive p q e = cc

class_is_none : (n : List ℕ) (p : Primitive) → class n ≡ primitive p → ⊥
class_is_none n p e = cc

array_is_none : (c : FieldDescriptor) (p : Primitive) → array c ≡ primitive p → ⊥
array_is_none c p e = cc

null_is_none : (k : Kind) → null ≡ number k → ⊥
null_is_none k e = cc

pub reference_is_none : (a : ℕ) (k : Kind) → reference a ≡ number k → ⊥
reference_is_none a k e = cc

one_number : (k j : Kind) → number k ≡ number j → k ≡ j
one_number k j e = cc

module _ (w : World) (types : Types) where
  object_there : (a : ℕ) (x : ReferenceType) → types a ≡ Some x → heap_in types (λ b. ready) a ≡ Some (object x ready)
  object_there a x e = here types (λ b. ready) a x ready e refl

  -- a value of the type fits it
  value_fits : (t : FieldDescriptor) (v : Value) → IsValueOf w types t v → FitsType w types t v
  value_fits (primitive p) (number k) f = ap number (f.2 ∙ kinds_are f.0 ∙ ap computed_as (sym (one_primitive p f.0 f.1)))
  value_fits (primitive p) null f = elim f [ ]
  value_fits (primitive p) (reference a) f = elim f.0 [ ]
  value_fits (class n) (number k) f = absurd (class_is_none n f.0 f.1)
  value_fits (class n) null f = tt
  value_fits (class n) (reference a) f = (f.1.0, object_there a f.1.0 f.1.1, f.1.2)
  value_fits (array c) (number k) f = absurd (array_is_none c f.0 f.1)
  value_fits (array c) null f = tt
  value_fits (array c) (reference a) f = (f.1.0, object_there a f.1.0 f.1.1, f.1.2)

  -- and back
  fits_value : (t : FieldDescriptor) (v : Value) → FitsType w types t v → IsValueOf w types t v
  fits_value (primitive p) (number k) f = (p, refl, one_number k (computed_as p) f ∙ sym (kinds_are p))
  fits_value (primitive p) null f = absurd (null_is_none (computed_as p) f)
  fits_value (primitive p) (reference a) f = absurd (reference_is_none a (computed_as p) f)
  fits_value (class n) (number k) f = elim f [ ]
  fits_value (class n) null f = tt
  fits_value (class n) (reference a) f = (tt, (f.0, (there types (λ b. ready) a (object f.0 ready) f.1).0, f.2))
  fits_value (array c) (number k) f = elim f [ ]
  fits_value (array c) null f = tt
  fits_value (array c) (reference a) f = (tt, (f.0, (there types (λ b. ready) a (object f.0 ready) f.1).0, f.2))

  type_is : (place : Place) (t : FieldDescriptor) → IsOfType types place t → type_at types place ≡ Some t
  type_is (static_field n d) t e = ap Some (sym e)
  type_is (field a n d) t e = ap (option_map (λ x. d)) e.1.1 ∙ ap Some (sym e.0)
  type_is (elements a) t e = ap component_of e

  component_back : (o : Option ReferenceType) (t : FieldDescriptor) → component_of o ≡ Some t → o ≡ Some (array_type t)
  component_back None t e = absurd (none_some t e)
  component_back (Some (class_type n)) t e = absurd (none_some t e)
  component_back (Some (array_type c)) t e = ap (λ z. Some (array_type z)) (some_same c t e)

  field_back : (o : Option ReferenceType) (d t : FieldDescriptor) → option_map (λ x. d) o ≡ Some t → (t ≡ d) × ((x : ReferenceType) × (o ≡ Some x))
  field_back None d t e = absurd (none_some t e)
  field_back (Some x) d t e = (sym (some_same d t e), (x, refl))

  is_type : (place : Place) (t : FieldDescriptor) → type_at types place ≡ Some t → IsOfType types place t
  is_type (static_field n d) t e = sym (some_same d t e)
  is_type (field a n d) t e = field_back (types a) d t e
  is_type (elements a) t e = component_back (types a) t e

  pub hold_fits : (place : Place) (v : Value) → MayHold w types place v → FitsPlace w types place v
  hold_fits place v f = (f.0, type_is place f.0 f.1, value_fits f.0 v f.2)

  pub fits_hold : (place : Place) (v : Value) → FitsPlace w types place v → MayHold w types place v
  fits_hold place v f = (f.0, is_type place f.0 f.1, fits_value f.0 v f.2)

  default_is : (t : FieldDescriptor) (v : Value) → IsDefault t v → default_of t ≡ v
  default_is t v (inl d) = ap default_of d.1 ∙ ap number (sym (kinds_are d.0)) ∙ sym d.2
  default_is (primitive p) v (inr d) = elim d.0 [ ]
  default_is (class n) v (inr d) = sym d.1
  default_is (array c) v (inr d) = sym d.1

  pub gives : (history : History) (place : Place) (v : Value) → ((t : FieldDescriptor) × IsOfType types place t × IsDefault t v) ⊎ IsAmong (store place v) history → IsGiven types history place v
  gives history place v (inl d) = inl (ap (option_map default_of) (type_is place d.0 d.1) ∙ ap Some (default_is d.0 v d.2))
  gives history place v (inr i) = inr i

  default_back : (t : FieldDescriptor) (v : Value) → default_of t ≡ v → IsDefault t v
  default_back (primitive p) v e = inl (p, refl, sym e ∙ ap number (sym (kinds_are p)))
  default_back (class n) v e = inr (tt, sym e)
  default_back (array c) v e = inr (tt, sym e)

  pub given_back : (history : History) (place : Place) (v : Value) → IsGiven types history place v → ((t : FieldDescriptor) × IsOfType types place t × IsDefault t v) ⊎ IsAmong (store place v) history
  given_back history place v (inl e) = go (type_at types place) refl
    where
      go : (o : Option FieldDescriptor) → type_at types place ≡ o → ((t : FieldDescriptor) × IsOfType types place t × IsDefault t v) ⊎ IsAmong (store place v) history
      go None k = absurd (none_some v (sym (ap (option_map default_of) k) ∙ e))
      go (Some t) k = inl (t, is_type place t k, default_back t v (some_same (default_of t) v (sym (ap (option_map default_of) k) ∙ e)))
  given_back history place v (inr i) = inr i

-- ---- new objects

are_fresh : (heap k : Heap) (xs : List (ℕ × ReferenceType)) → AreNew heap xs → ((y : ℕ × ReferenceType) → IsAmong y xs → heap y.0 ≡ None → k y.0 ≡ None) → IsFresh k xs
are_fresh heap k [] n f = tt
are_fresh heap k (x ∷ xs) n f =
    (f x (inl refl) n.0, n.1, n.2, are_fresh heap (with_object k x.0 (object x.1 ready)) xs n.4 (λ y i e. other y i (f y (inr i) e) (nat_eq x.0 y.0) refl))
  where
    other : (y : ℕ × ReferenceType) → IsAmong y xs → k y.0 ≡ None → (b : Bool) → nat_eq x.0 y.0 ≡ b → with_object k x.0 (object x.1 ready) y.0 ≡ None
    other y i e true p = absurd (n.3 y i (sym (eqb-true x.0 y.0 p)))
    other y i e false p = rw p e

pub new_are_fresh : (heap : Heap) (xs : List (ℕ × ReferenceType)) → AreNew heap xs → IsFresh heap xs
new_are_fresh heap xs n = are_fresh heap heap xs n (λ y i e. e)

-- ---- the stack

next_of : (stack : List Value) (n : ℕ) (v : Value) → slice_get stack n ≡ Some v → drop n stack ≡ v ∷ drop (suc n) stack
next_of [] n v e = absurd (none_some v e)
next_of (u ∷ stack) zero v e = ap (λ z. z ∷ stack) (some_same u v e)
next_of (u ∷ stack) (suc n) v e = next_of stack n v e

reference_of : (o : Option Value) (a : ℕ) → address_of o ≡ Some a → o ≡ Some (reference a)
reference_of None a e = absurd (none_some a e)
reference_of (Some (number k)) a e = absurd (none_some a e)
reference_of (Some null) a e = absurd (none_some a e)
reference_of (Some (reference b)) a e = ap (λ z. Some (reference z)) (some_same b a e)

pub is_live : (stack : List Value) (n a : ℕ) → slice_get stack n ≡ Some (reference a) → IsLive (Some n) stack
is_live stack n a e k = subst IsNull e k

static_of : (o : Option FieldConstant) (place : Place) → static_place o ≡ Some place → (f : FieldConstant) × (o ≡ Some f) × (place ≡ static_field f.name f.type)
static_of None place e = absurd (none_some place e)
static_of (Some f) place e = (f, refl, sym (some_same (static_field f.name f.type) place e))

field_of : (o : Option FieldConstant) (b : Option ℕ) (place : Place) → field_place o b ≡ Some place → (f : FieldConstant) × (a : ℕ) × (o ≡ Some f) × (b ≡ Some a) × (place ≡ field a f.name f.type)
field_of None b place e = absurd (none_some place e)
field_of (Some f) None place e = absurd (none_some place e)
field_of (Some f) (Some a) place e = (f, a, refl, refl, sym (some_same (field a f.name f.type) place e))

elements_of : (b : Option ℕ) (place : Place) → element_place b ≡ Some place → (a : ℕ) × (b ≡ Some a) × (place ≡ elements a)
elements_of None place e = absurd (none_some place e)
elements_of (Some a) place e = (a, refl, sym (some_same (elements a) place e))

-- the item at place 1, and what is beneath it
two_of : (stack : List Value) (a : ℕ) → slice_get stack 1 ≡ Some (reference a) → (i : Value) × (stack ≡ i ∷ reference a ∷ drop 2 stack)
two_of [] a e = absurd (none_some (reference a) e)
two_of (i ∷ rest) a e = (i, ap (λ z. i ∷ z) (next_of rest 0 (reference a) e))

three_of : (stack : List Value) (v : Value) (a : ℕ) → slice_get stack 0 ≡ Some v → slice_get stack 2 ≡ Some (reference a) → (i : Value) × (stack ≡ v ∷ i ∷ reference a ∷ drop 3 stack)
three_of [] v a e d = absurd (none_some v e)
three_of (u ∷ []) v a e d = absurd (none_some (reference a) d)
three_of (u ∷ (i ∷ rest)) v a e d = (i, ap (λ z. z ∷ (i ∷ rest)) (some_same u v e) ∙ ap (λ z. v ∷ (i ∷ z)) (next_of rest 0 (reference a) d))

value_and_object : (stack : List Value) (v : Value) (a : ℕ) → slice_get stack 0 ≡ Some v → slice_get stack 1 ≡ Some (reference a) → stack ≡ v ∷ reference a ∷ drop 2 stack
value_and_object [] v a e d = absurd (none_some v e)
value_and_object (u ∷ rest) v a e d = ap (λ z. z ∷ rest) (some_same u v e) ∙ ap (λ z. v ∷ z) (next_of rest 0 (reference a) d)

pub reads_so : (m : Method Act) (act : Act) (stack : List Value) (place : Place) → place_read m act stack ≡ Some place → Reads m act stack place (drop (operands_of_access act) stack)
reads_so m (acts.GetStatic i) stack place e = let k = static_of (field_at m.constant_pool i) place e in (k.0, k.1, k.2, refl)
reads_so m (acts.GetField i) stack place e =
    let k = field_of (field_at m.constant_pool i) (address_of (slice_get stack 0)) place e in
    (k.0, k.1, k.2, k.4, next_of stack 0 (reference k.1) (reference_of (slice_get stack 0) k.1 k.3))
reads_so m (acts.LoadElement p) stack place e =
    let k = elements_of (address_of (slice_get stack 1)) place e in
    let s = two_of stack k.0 (reference_of (slice_get stack 1) k.0 k.1) in
    (s.0, k.0, k.2, s.1)
reads_so m acts.LoadReferenceElement stack place e =
    let k = elements_of (address_of (slice_get stack 1)) place e in
    let s = two_of stack k.0 (reference_of (slice_get stack 1) k.0 k.1) in
    (s.0, k.0, k.2, s.1)
reads_so m _ stack place e = absurd (none_some place e)

pub writes_so : (m : Method Act) (act : Act) (stack : List Value) (place : Place) (v : Value) → place_stored_to m act stack ≡ Some place → slice_get stack 0 ≡ Some v → Writes m act stack place v
writes_so m (acts.PutStatic i) stack place v e d =
    let k = static_of (field_at m.constant_pool i) place e in
    (k.0, drop 1 stack, k.1, k.2, next_of stack 0 v d)
writes_so m (acts.PutField i) stack place v e d =
    let k = field_of (field_at m.constant_pool i) (address_of (slice_get stack 1)) place e in
    (k.0, k.1, drop 2 stack, k.2, k.4, value_and_object stack v k.1 d (reference_of (slice_get stack 1) k.1 k.3))
writes_so m (acts.StoreElement p) stack place v e d =
    let k = elements_of (address_of (slice_get stack 2)) place e in
    let s = three_of stack v k.0 d (reference_of (slice_get stack 2) k.0 k.1) in
    (s.0, k.0, drop 3 stack, k.2, s.1)
writes_so m acts.StoreReferenceElement stack place v e d =
    let k = elements_of (address_of (slice_get stack 2)) place e in
    let s = three_of stack v k.0 d (reference_of (slice_get stack 2) k.0 k.1) in
    (s.0, k.0, drop 3 stack, k.2, s.1)
writes_so m _ stack place v e d = absurd (none_some place e)

-- and back

pub read_place : (m : Method Act) (act : Act) (stack : List Value) (place : Place) (below : List Value) → Reads m act stack place below → (place_read m act stack ≡ Some place) × (below ≡ drop (operands_of_access act) stack)
read_place m (acts.GetStatic i) stack place below r = (ap static_place r.1 ∙ ap Some (sym r.2), r.3)
read_place m (acts.GetField i) stack place below r = (
  ap (λ z. field_place z (address_of (slice_get stack 0))) r.2 ∙ ap (λ z. field_place (Some r.0) (address_of (slice_get z 0))) r.4 ∙ ap Some (sym r.3),
  sym (ap (drop 1) r.4),
)
read_place m (acts.LoadElement p) stack place below r = (ap (λ z. element_place (address_of (slice_get z 1))) r.3 ∙ ap Some (sym r.2), sym (ap (drop 2) r.3))
read_place m acts.LoadReferenceElement stack place below r = (ap (λ z. element_place (address_of (slice_get z 1))) r.3 ∙ ap Some (sym r.2), sym (ap (drop 2) r.3))
read_place m _ stack place below r = elim r [ ]

pub stored_place : (m : Method Act) (act : Act) (stack : List Value) (place : Place) (v : Value) → Writes m act stack place v → (place_stored_to m act stack ≡ Some place) × (slice_get stack 0 ≡ Some v)
stored_place m (acts.PutStatic i) stack place v r = (ap static_place r.2 ∙ ap Some (sym r.3), ap (λ z. slice_get z 0) r.4)
stored_place m (acts.PutField i) stack place v r = (
  ap (λ z. field_place z (address_of (slice_get stack 1))) r.3 ∙ ap (λ z. field_place (Some r.0) (address_of (slice_get z 1))) r.5 ∙ ap Some (sym r.4),
  ap (λ z. slice_get z 0) r.5,
)
stored_place m (acts.StoreElement p) stack place v r = (ap (λ z. element_place (address_of (slice_get z 2))) r.4 ∙ ap Some (sym r.3), ap (λ z. slice_get z 0) r.4)
stored_place m acts.StoreReferenceElement stack place v r = (ap (λ z. element_place (address_of (slice_get z 2))) r.4 ∙ ap Some (sym r.3), ap (λ z. slice_get z 0) r.4)
stored_place m _ stack place v r = elim r [ ]

-- ---- which instructions read or store

pub read_is_access : (m : Method Act) (act : Act) (stack : List Value) (place : Place) → place_read m act stack ≡ Some place → (is_access act ≡ true) × ((other : Place) (v : Value) → Writes m act stack other v → ⊥)
read_is_access m (acts.GetStatic i) stack place e = (refl, λ other v k. k)
read_is_access m (acts.GetField i) stack place e = (refl, λ other v k. k)
read_is_access m (acts.LoadElement p) stack place e = (refl, λ other v k. k)
read_is_access m acts.LoadReferenceElement stack place e = (refl, λ other v k. k)
read_is_access m _ stack place e = absurd (none_some place e)

pub store_is_access : (m : Method Act) (act : Act) (stack : List Value) (place : Place) → place_stored_to m act stack ≡ Some place → (is_access act ≡ true) × ((other : Place) (below : List Value) → Reads m act stack other below → ⊥)
store_is_access m (acts.PutStatic i) stack place e = (refl, λ other below k. k)
store_is_access m (acts.PutField i) stack place e = (refl, λ other below k. k)
store_is_access m (acts.StoreElement p) stack place e = (refl, λ other below k. k)
store_is_access m acts.StoreReferenceElement stack place e = (refl, λ other below k. k)
store_is_access m _ stack place e = absurd (none_some place e)

pub access_calls_none : (m : Method Act) (act : Act) → is_access act ≡ true → called m act ≡ None
access_calls_none m (acts.GetStatic i) e = refl
access_calls_none m (acts.PutStatic i) e = refl
access_calls_none m (acts.GetField i) e = refl
access_calls_none m (acts.PutField i) e = refl
access_calls_none m (acts.LoadElement p) e = refl
access_calls_none m (acts.StoreElement p) e = refl
access_calls_none m acts.LoadReferenceElement e = refl
access_calls_none m acts.StoreReferenceElement e = refl
access_calls_none m _ e = cc

pub access_is_not_last : (m : Method Act) (act : Act) → is_access act ≡ true → IsLast (effect m act) → ⊥
access_is_not_last m (acts.GetStatic i) e l = no_get_static (field_at m.constant_pool i) l
access_is_not_last m (acts.PutStatic i) e l = no_put_static (field_at m.constant_pool i) l
access_is_not_last m (acts.GetField i) e l = no_get_field (field_at m.constant_pool i) l
access_is_not_last m (acts.PutField i) e l = no_put_field m (field_at m.constant_pool i) l
access_is_not_last m (acts.LoadElement p) e l = l
access_is_not_last m (acts.StoreElement p) e l = l
access_is_not_last m acts.LoadReferenceElement e l = l
access_is_not_last m acts.StoreReferenceElement e l = l
access_is_not_last m _ e l = cc
