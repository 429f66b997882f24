-- A read and a store of the last activation: each is a step of the machine, and back.
use Rattle.std.proofs.Common.{◌≡◌, ℕ, Bool, true, false, ◌&&◌, pos, List, [], ◌∷◌, ◌++◌, length, drop, slice_get, Option, Some, None, option_map, ◌⊎◌, inl, inr, if◌then◌else◌, sym, ap, refl, ◌∙◌, subst}
use Rattle.names.specs.declared.base.Primitive.{Primitive}
use Rattle.names.specs.Descriptors.{FieldDescriptor, primitive, class, array}
use Rattle.names.specs.ReferenceTypes.{ReferenceType, class_type}
use Rattle.names.specs.StandardNames.{object_name}
use Rattle.pool.specs.ConstantMeanings.{FieldConstant, field_at}
use Rattle.classfile.specs.Methods.{is_own_field}
use Rattle.hierarchy.specs.World.{World}
use Rattle.insn.specs.declared.kinds.Kind.{Kind}
use Rattle.insn.specs.declared.kinds.Kind.TheVariants as kinds
use Rattle.insn.specs.Kinds.{computed_as}
use Rattle.insn.specs.Meanings as acts
use Rattle.insn.specs.Meanings.{Act}
use Rattle.insn.specs.OperandStacks.{beneath}
use Rattle.insn.specs.Offsets.{next_offset, IsAmong}
use Rattle.machine.specs.Values.{Value, number, null, reference}
use Rattle.machine.specs.Heap.{ready, Object, object, Heap, FitsField, IsReady, IsFresh, with_fresh}
use Rattle.machine.specs.Effects as effects
use Rattle.machine.specs.Effects.{Demand, Effect, of_type, own_or_of, demands_of, falls, targets, effect}
use Rattle.machine.specs.Demands.{State, Meets, AllMeet}
use Rattle.machine.specs.Steps.{IsLive, Does, moved, moved_with, IsBranch, GoesTo}
use Rattle.verify.specs.ClassRuns.{Types, Activation, heap_in, state_in, types_of}
use Rattle.verify.specs.ClassRunBreadth.{IsReadyFor, with_types}
use Rattle.verify.specs.HeapRuns.{Place, static_field, field, elements, FitsPlace, Reads, Writes, Takes}
use Rattle.verify.specs.HeapRunBreadth.{address_of, static_place, field_place, element_place, place_read, place_stored_to, operands_of_access, MayTake}
use Rattle.verify.proofs.safety.News.{fresh_gains}
use Rattle.verify.proofs.safety.ClassMoments.{there, none_some}
use Rattle.verify.proofs.safety.ClassRunBreadth.{types_with}
use Rattle.verify.proofs.safety.HeapRuns.{array_for, component_there, Asked}
use Rattle.verify.proofs.safety.HeapPlaces.{reference_is_none, hold_fits, fits_hold, is_live}

beneath_is : (ns : List Demand) (xs : List Value) → beneath ns xs ≡ drop (length ns) xs
beneath_is [] xs = refl
beneath_is (n ∷ ns) [] = refl
beneath_is (n ∷ ns) (x ∷ xs) = beneath_is ns xs

field_ready : (w : World) (h : Heap) (t : FieldDescriptor) (v : Value) → FitsField w h t v → IsReady h v
field_ready w h t (number k) f = tt
field_ready w h t null f = tt
field_ready w h (primitive p) (reference a) f = absurd (reference_is_none a (computed_as p) f)
field_ready w h (class n) (reference a) f = (f.0, f.1)
field_ready w h (array c) (reference a) f = (f.0, f.1)

module _ (w : World) (types : Types) (a : Activation) (fresh : List (ℕ × ReferenceType)) where
  abbrev objects_now : Heap
  objects_now = heap_in types a.status

  abbrev objects_then : Heap
  objects_then = with_fresh objects_now fresh

  abbrev pub before : State
  before = record { at = a.at; stack = a.stack; locals = a.locals; heap = objects_then }

  abbrev pub after : ℕ → List Value → State
  after to stack = moved_with (state_in types a) to stack objects_then

  pub ready_then : IsFresh objects_now fresh → (v : Value) → IsReadyFor (with_types types fresh) a (Some v) → IsReady objects_then v
  ready_then u (number k) r = tt
  ready_then u null r = tt
  ready_then u (reference b) r = go (objects_then b) refl
    where
      type_then : types_of objects_then b ≡ Some r.0
      type_then = ap (λ t. t b) (types_with types a.status fresh) ∙ r.1

      status_then : (o : Object) → (objects_now b ≡ Some o) ⊎ (o.status ≡ ready) → o.status ≡ ready
      status_then o (inl e) = sym (there types a.status b o e).1 ∙ r.2
      status_then o (inr e) = e

      go : (o : Option Object) → objects_then b ≡ o → IsReady objects_then (reference b)
      go None e = absurd (none_some r.0 (sym (ap (option_map (λ z. z.type)) e) ∙ type_then))
      go (Some o) e = (o.type, e ∙ ap (λ z. Some (object o.type z)) (status_then o ((fresh_gains fresh objects_now u).gains b o e)))

  -- ---- a store is a step of the machine

  pub record Passes (t : Effect) (to : ℕ) (rest : List Value) : Type 0 where
    pub does : Does w t before None to (after to rest)
    pub no_targets : targets a.at t ≡ []
    pub goes_on : falls t ≡ true

  passes : (ns : List Demand) (live : Option ℕ) (to : ℕ) → IsLive live a.stack → Passes (effects.operates ns live effects.no_reply [] true) to (drop (length ns) a.stack)
  passes ns live to l = record {
    does = (l, ([], (refl, refl), ap (λ z. moved before to z) (sym (beneath_is ns a.stack))));
    no_targets = refl;
    goes_on = refl;
  }

  pub store_passes : (act : Act) (place : Place) (v : Value) (to : ℕ) → Writes a.method act a.stack place v → Passes (effect a.method act) to (drop (operands_of_access act) a.stack)
  store_passes (acts.PutStatic i) place v to r = subst (λ z. Passes (effects.put_static z) to (drop 1 a.stack)) (sym r.2) (passes (effects.demand_of r.0.type ∷ []) None to tt)
  store_passes (acts.PutField i) place v to r =
      subst (λ z. Passes (effects.put_field a.method z) to (drop 2 a.stack)) (sym r.3)
      (passes (effects.demand_of r.0.type ∷ effects.target_of a.method r.0 ∷ []) (Some 1) to (is_live a.stack 1 r.1 (ap (λ z. slice_get z 1) r.5)))
  store_passes (acts.StoreElement p) place v to r = passes _ (Some 2) to (is_live a.stack 2 r.1 (ap (λ z. slice_get z 2) r.4))
  store_passes acts.StoreReferenceElement place v to r = passes _ (Some 2) to (is_live a.stack 2 r.1 (ap (λ z. slice_get z 2) r.4))
  store_passes _ place v to r = elim r [ ]

  passed_to : (ns : List Demand) (live : Option ℕ) (to : ℕ) (t : State) → Does w (effects.operates ns live effects.no_reply [] true) before None to t → t ≡ after to (drop (length ns) a.stack)
  passed_to ns live to t d = d.1.2 ∙ ap (λ z. moved before to (z ++ beneath ns a.stack)) d.1.1.1 ∙ ap (λ z. moved before to z) (beneath_is ns a.stack)

  pub store_passed : (act : Act) (place : Place) (v : Value) (to : ℕ) (t : State) → Writes a.method act a.stack place v → Does w (effect a.method act) before None to t → t ≡ after to (drop (operands_of_access act) a.stack)
  store_passed (acts.PutStatic i) place v to t r d = passed_to (effects.demand_of r.0.type ∷ []) None to t (subst (λ z. Does w (effects.put_static z) before None to t) r.2 d)
  store_passed (acts.PutField i) place v to t r d = passed_to (effects.demand_of r.0.type ∷ effects.target_of a.method r.0 ∷ []) (Some 1) to t (subst (λ z. Does w (effects.put_field a.method z) before None to t) r.3 d)
  store_passed (acts.StoreElement p) place v to t r d = passed_to (demands_of (effect a.method (acts.StoreElement p))) (Some 2) to t d
  store_passed acts.StoreReferenceElement place v to t r d = passed_to (demands_of (effect a.method acts.StoreReferenceElement)) (Some 2) to t d
  store_passed _ place v to t r d = elim r [ ]

  pub taken_so : (act : Act) (place : Place) (v : Value) → Writes a.method act a.stack place v → Takes w types place v → MayTake w types act place v
  taken_so acts.StoreReferenceElement place v r n = fits_hold w types place v (subst (λ z. FitsPlace w types z v) (sym r.3) (subst (λ z. Takes w types z v) r.3 n))
  taken_so _ place v r n = tt

  pub takes_so : (act : Act) (place : Place) (v : Value) → Asked w types a act → Writes a.method act a.stack place v → MayTake w types act place v → Takes w types place v
  takes_so (acts.PutStatic i) place v k r n = subst (λ z. Takes w types z v) (sym r.3) tt
  takes_so (acts.PutField i) place v k r n = subst (λ z. Takes w types z v) (sym r.4) tt
  takes_so (acts.StoreElement p) place v k r n =
      let operands = subst (AllMeet w objects_now (demands_of (effect a.method (acts.StoreElement p)))) r.4 k in
      let it = array_for p objects_now r.1 operands.1.1.0.0 operands.1.1.0.1 operands.1.1.0.2 in
      subst (λ z. Takes w types z v) (sym r.3) (primitive it.component, component_there types a.status r.1 (primitive it.component) ready it.at, operands.0 ∙ ap number it.kind)
  takes_so acts.StoreReferenceElement place v k r n = subst (λ z. Takes w types z v) (sym r.3) (subst (λ z. FitsPlace w types z v) r.3 (hold_fits w types place v n))
  takes_so _ place v k r n = elim r [ ]

  -- ---- the operands of a step that goes on

  one_of : (t : ReferenceType) (xs : List Value) → AllMeet w objects_now (of_type t ∷ []) xs → IsLive (Some 0) xs → (o : ℕ) × (below : List Value) × (xs ≡ reference o ∷ below)
  one_of t [] m l = elim m [ ]
  one_of t (number k ∷ xs) m l = elim m.0 [ ]
  one_of t (null ∷ xs) m l = absurd (l tt)
  one_of t (reference o ∷ xs) m l = (o, xs, refl)

  abbrev NoNumber : Demand → Type 0
  NoNumber n = (k : Kind) → Meets w objects_now n (number k) → ⊥

  under_one : (n j : Demand) (xs : List Value) → NoNumber j → AllMeet w objects_now (n ∷ j ∷ []) xs → IsLive (Some 1) xs → (v : Value) × (o : ℕ) × (rest : List Value) × (xs ≡ v ∷ reference o ∷ rest)
  under_one n j [] none m l = elim m [ ]
  under_one n j (v ∷ []) none m l = elim m.1 [ ]
  under_one n j (v ∷ (number k ∷ xs)) none m l = absurd (none k m.1.0)
  under_one n j (v ∷ (null ∷ xs)) none m l = absurd (l tt)
  under_one n j (v ∷ (reference o ∷ xs)) none m l = (v, o, xs, refl)

  under_two : (n i j : Demand) (xs : List Value) → NoNumber j → AllMeet w objects_now (n ∷ i ∷ j ∷ []) xs → IsLive (Some 2) xs → (v u : Value) × (o : ℕ) × (rest : List Value) × (xs ≡ v ∷ u ∷ reference o ∷ rest)
  under_two n i j [] none m l = elim m [ ]
  under_two n i j (v ∷ []) none m l = elim m.1 [ ]
  under_two n i j (v ∷ (u ∷ [])) none m l = elim m.1.1 [ ]
  under_two n i j (v ∷ (u ∷ (number k ∷ xs))) none m l = absurd (none k m.1.1.0)
  under_two n i j (v ∷ (u ∷ (null ∷ xs))) none m l = absurd (l tt)
  under_two n i j (v ∷ (u ∷ (reference o ∷ xs))) none m l = (v, u, o, xs, refl)

  on_top_of : (n : Demand) (xs : List Value) → AllMeet w objects_now (n ∷ []) xs → (v : Value) × (rest : List Value) × (xs ≡ v ∷ rest)
  on_top_of n [] m = elim m [ ]
  on_top_of n (v ∷ xs) m = (v, xs, refl)

  target_no_number : (b : Bool) (c : List ℕ) → NoNumber (if b then own_or_of c else of_type (class_type c))
  target_no_number true c k (inl f) = f
  target_no_number true c k (inr f) = reference_is_none f.0 k (sym f.2)
  target_no_number false c k f = f

  -- ---- a step that goes on after a read

  pub record IsReadBy (act : Act) (answer : Option Value) (to : ℕ) (t : State) : Type 0 where
    pub place : Place
    pub place_is : place_read a.method act a.stack ≡ Some place
    pub below : List Value
    pub reads : Reads a.method act a.stack place below
    pub value : Value
    pub answered : answer ≡ Some value
    pub ready : IsReady objects_then value
    pub after_is : t ≡ after to (value ∷ below)
    pub next : next_offset a.method.code a.at ≡ Some to

  pub goes_next : (t : Effect) (to : ℕ) → targets a.at t ≡ [] → GoesTo a.method a.at t to → next_offset a.method.code a.at ≡ Some to
  goes_next t to e (inl i) = elim (subst (IsAmong (pos to)) e i) [ ]
  goes_next t to e (inr k) = k.1

  module _ (answer : Option Value) (to : ℕ) (t : State) where
    pub read_static : (i : ℕ) (o : Option FieldConstant) → field_at a.method.constant_pool i ≡ o → GoesTo a.method a.at (effects.get_static o) to → Does w (effects.get_static o) before answer to t → IsReadBy (acts.GetStatic i) answer to t
    read_static i None e g d = elim d [ ]
    read_static i (Some f) e g d =
        let r = d.1.1 in
        record {
          place = static_field f.name f.type;
          place_is = ap static_place e;
          below = a.stack;
          reads = (f, e, refl, refl);
          value = r.0;
          answered = r.1;
          ready = field_ready w objects_then f.type r.0 r.2;
          after_is = d.1.2 ∙ ap (λ z. moved before to (z ++ a.stack)) r.3;
          next = goes_next (effects.get_static (Some f)) to refl g;
        }

    pub read_field : (i : ℕ) (o : Option FieldConstant) → field_at a.method.constant_pool i ≡ o → AllMeet w objects_now (demands_of (effects.get_field o)) a.stack → GoesTo a.method a.at (effects.get_field o) to → Does w (effects.get_field o) before answer to t → IsReadBy (acts.GetField i) answer to t
    read_field i None e m g d = elim d [ ]
    read_field i (Some f) e m g d =
        let r = d.1.1 in
        let s = one_of (class_type f.class) a.stack m d.0 in
        record {
          place = field s.0 f.name f.type;
          place_is = ap (λ z. field_place z (address_of (slice_get a.stack 0))) e ∙ ap (λ z. field_place (Some f) (address_of (slice_get z 0))) s.2;
          below = s.1;
          reads = (f, s.0, e, refl, s.2);
          value = r.0;
          answered = r.1;
          ready = field_ready w objects_then f.type r.0 r.2;
          after_is = d.1.2 ∙ ap (λ z. moved before to (z ++ beneath (demands_of (effects.get_field (Some f))) a.stack)) r.3 ∙ ap (λ z. moved before to (r.0 ∷ beneath (demands_of (effects.get_field (Some f))) z)) s.2;
          next = goes_next (effects.get_field (Some f)) to refl g;
        }

    pub read_element : (p : Primitive) → Asked w types a (acts.LoadElement p) → GoesTo a.method a.at (effect a.method (acts.LoadElement p)) to → Does w (effect a.method (acts.LoadElement p)) before answer to t → IsReadBy (acts.LoadElement p) answer to t
    read_element p m g d =
        let r = d.1.1 in
        let s = under_one (effects.of_kind kinds.Int) (effects.some_array_for p) a.stack (λ k f. f) m d.0 in
        record {
          place = elements s.1;
          place_is = ap (λ z. element_place (address_of (slice_get z 1))) s.3;
          below = s.2;
          reads = (s.0, s.1, refl, s.3);
          value = r.0;
          answered = r.1;
          ready = field_ready w objects_then (primitive p) r.0 r.2;
          after_is = d.1.2 ∙ ap (λ z. moved before to (z ++ beneath (demands_of (effect a.method (acts.LoadElement p))) a.stack)) r.3 ∙ ap (λ z. moved before to (r.0 ∷ beneath (demands_of (effect a.method (acts.LoadElement p))) z)) s.3;
          next = goes_next (effect a.method (acts.LoadElement p)) to refl g;
        }

    pub read_reference : GoesTo a.method a.at effects.takes_element to → Does w effects.takes_element before answer to t → IsReadBy acts.LoadReferenceElement answer to t
    read_reference g d = record {
      place = elements d.1;
      place_is = ap (λ z. element_place (address_of (slice_get z 1))) d.5;
      below = d.3;
      reads = (d.0, d.1, refl, d.5);
      value = d.4;
      answered = d.8;
      ready = field_ready w objects_then d.2 d.4 d.7;
      after_is = d.9;
      next = goes_next effects.takes_element to refl g;
    }

  -- ---- a step that goes on after a store

  pub record IsStoreBy (act : Act) (branch : Option ℕ) (answer : Option Value) : Type 0 where
    pub place : Place
    pub place_is : place_stored_to a.method act a.stack ≡ Some place
    pub value : Value
    pub value_is : slice_get a.stack 0 ≡ Some value
    pub no_branch : branch ≡ None
    pub no_answer : answer ≡ None

  module _ (branch : Option ℕ) (answer : Option Value) (to : ℕ) (t : State) where
    pub store_static : (i : ℕ) (o : Option FieldConstant) → field_at a.method.constant_pool i ≡ o → AllMeet w objects_now (demands_of (effects.put_static o)) a.stack → IsBranch (targets a.at (effects.put_static o)) branch to → Does w (effects.put_static o) before answer to t → IsStoreBy (acts.PutStatic i) branch answer
    store_static i None e m b d = elim d [ ]
    store_static i (Some f) e m b d =
        let s = on_top_of (effects.demand_of f.type) a.stack m in
        record {
          place = static_field f.name f.type;
          place_is = ap static_place e;
          value = s.0;
          value_is = ap (λ z. slice_get z 0) s.2;
          no_branch = b;
          no_answer = d.1.1.0;
        }

    pub store_field : (i : ℕ) (o : Option FieldConstant) → field_at a.method.constant_pool i ≡ o → AllMeet w objects_now (demands_of (effects.put_field a.method o)) a.stack → IsBranch (targets a.at (effects.put_field a.method o)) branch to → Does w (effects.put_field a.method o) before answer to t → IsStoreBy (acts.PutField i) branch answer
    store_field i None e m b d = elim d [ ]
    store_field i (Some f) e m b d =
        let s = under_one (effects.demand_of f.type) (effects.target_of a.method f) a.stack (target_no_number (a.method.is_init && is_own_field a.method f) f.class) m d.0 in
        record {
          place = field s.1 f.name f.type;
          place_is = ap (λ z. field_place z (address_of (slice_get a.stack 1))) e ∙ ap (λ z. field_place (Some f) (address_of (slice_get z 1))) s.3;
          value = s.0;
          value_is = ap (λ z. slice_get z 0) s.3;
          no_branch = b;
          no_answer = d.1.1.0;
        }

    pub store_element : (p : Primitive) → Asked w types a (acts.StoreElement p) → IsBranch (targets a.at (effect a.method (acts.StoreElement p))) branch to → Does w (effect a.method (acts.StoreElement p)) before answer to t → IsStoreBy (acts.StoreElement p) branch answer
    store_element p m b d =
        let s = under_two (effects.of_kind (computed_as p)) (effects.of_kind kinds.Int) (effects.some_array_for p) a.stack (λ k f. f) m d.0 in
        record {
          place = elements s.2;
          place_is = ap (λ z. element_place (address_of (slice_get z 2))) s.4;
          value = s.0;
          value_is = ap (λ z. slice_get z 0) s.4;
          no_branch = b;
          no_answer = d.1.1.0;
        }

    pub store_reference : Asked w types a acts.StoreReferenceElement → IsBranch (targets a.at (effect a.method acts.StoreReferenceElement)) branch to → Does w (effect a.method acts.StoreReferenceElement) before answer to t → IsStoreBy acts.StoreReferenceElement branch answer
    store_reference m b d =
        let s = under_two (of_type (class_type object_name)) (effects.of_kind kinds.Int) (of_type effects.objects) a.stack (λ k f. f) m d.0 in
        record {
          place = elements s.2;
          place_is = ap (λ z. element_place (address_of (slice_get z 2))) s.4;
          value = s.0;
          value_is = ap (λ z. slice_get z 0) s.4;
          no_branch = b;
          no_answer = d.1.1.0;
        }
