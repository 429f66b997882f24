-- No activation of a run with a history is a fault: each value of a history fits its place, so each step is one of a
-- class run.
use Rattle.std.proofs.Common.{◌≡◌, ℕ, Bool, true, false, ◌&&◌, List, [], ◌∷◌, slice_get, Option, Some, None, option_map, inl, inr, if◌then◌else◌, sym, ap, refl, ◌∙◌, subst}
use Rattle.names.specs.declared.base.Primitive.{Primitive}
use Rattle.names.specs.declared.base.Primitive.TheVariants as primitives
use Rattle.names.specs.Descriptors.{FieldDescriptor, primitive, class, array}
use Rattle.names.specs.ReferenceTypes.{ReferenceType, class_type, array_type}
use Rattle.classfile.specs.Methods.{is_own_field}
use Rattle.hierarchy.specs.World.{World}
use Rattle.insn.specs.Kinds.{computed_as}
use Rattle.insn.specs.Operators.{takes_array}
use Rattle.insn.specs.Meanings as acts
use Rattle.insn.specs.Meanings.{Act}
use Rattle.insn.specs.OperandStacks.{beneath}
use Rattle.insn.specs.Offsets.{IsAmong}
use Rattle.machine.specs.Values.{Value, number, null, reference}
use Rattle.machine.specs.Heap.{Status, ready, this, object, Heap, IsBelow, FitsReference, FitsField, IsArrayFor, IsReady, IsFresh, with_fresh}
use Rattle.machine.specs.Effects as effects
use Rattle.machine.specs.Effects.{Effect, of_type, own_or_of, objects, demands_of, falls, targets, effect}
use Rattle.machine.specs.Demands.{State, Meets, AllMeet, IsNoFault}
use Rattle.machine.specs.Steps.{Choice, go, raise, goes_on, IsNull, Does, moved, moved_with, IsBranch, Steps, Happens}
use Rattle.verify.specs.ClassRuns.{Callee, Types, Activation, heap_in, state_in, types_of, activation, Moment, moment, StepsAlone, Answered, Unwinds, Goes, IsClassRun}
use Rattle.verify.specs.ClassRunSafety.{IsInPlay}
use Rattle.verify.specs.HeapRuns.{Place, static_field, field, elements, Store, store, History, component_of, type_at, FitsType, FitsPlace, HeapMoment, default_of, IsGiven, Reads, StepsByRead, Writes, Takes, StepsByStore, StepsElsewhere, Accesses, GoesWithHeap, IsHeapRun}
use Rattle.verify.specs.HeapRunSafety.{VerifiedIsPlayableWithHeap, PlayableIsPlayableWithHeap}
use Rattle.verify.proofs.safety.News.{fresh_gains}
use Rattle.verify.proofs.safety.ClassCalls.{some_same, meets_field}
use Rattle.verify.proofs.safety.ClassMoments.{Grows, KeepsReady, field_in, here, there, none_some, fresh_grows, step_grows}
use Rattle.verify.proofs.safety.ClassRuns.{verified_is_playable}

-- ---- values that fit by their types

forgets : (types : Types) (status : ℕ → Status) → KeepsReady (heap_in types status) (heap_in types (λ a. ready))
forgets types status a x e = here types (λ b. ready) a x ready (there types status a (object x ready) e).0 refl

pub by_type : (w : World) (types : Types) (status : ℕ → Status) (t : FieldDescriptor) (v : Value) → FitsField w (heap_in types status) t v → FitsType w types t v
by_type w types status t v f = field_in w (heap_in types status) (heap_in types (λ a. ready)) t v (forgets types status) f

type_grows : (w : World) (types next : Types) (t : FieldDescriptor) (v : Value) → Grows types next → FitsType w types t v → FitsType w next t v
type_grows w types next t v g f =
    field_in w (heap_in types (λ a. ready)) (heap_in next (λ a. ready)) t v (λ a x e. here next (λ b. ready) a x ready (g a x (there types (λ b. ready) a (object x ready) e).0) refl) f

ready_reference : (w : World) (types : Types) (k : Heap) (t : ReferenceType) (v : Value) → Grows types (types_of k) → FitsReference w (heap_in types (λ a. ready)) t v → IsReady k v → FitsReference w k t v
ready_reference w types k t (number j) g f r = f
ready_reference w types k t null g f r = tt
ready_reference w types k t (reference a) g f r =
    let p : types_of k a ≡ Some f.0 = g a f.0 (there types (λ b. ready) a (object f.0 ready) f.1).0 in
    let q : types_of k a ≡ Some r.0 = ap (option_map (λ o. o.type)) r.1 in
    (r.0, r.1, subst (λ x. IsBelow w x t) (some_same f.0 r.0 (sym p ∙ q)) f.2)

-- a value that fits by its type and is ready fits
pub ready_fits : (w : World) (types : Types) (k : Heap) (t : FieldDescriptor) (v : Value) → Grows types (types_of k) → FitsType w types t v → IsReady k v → FitsField w k t v
ready_fits w types k (primitive p) v g f r = f
ready_fits w types k (class n) v g f r = ready_reference w types k (class_type n) v g f r
ready_fits w types k (array c) v g f r = ready_reference w types k (array_type c) v g f r

default_fits : (w : World) (types : Types) (t : FieldDescriptor) → FitsType w types t (default_of t)
default_fits w types (primitive p) = refl
default_fits w types (class n) = tt
default_fits w types (array c) = tt

-- ---- places

component_stays : (o n : Option ReferenceType) (t : FieldDescriptor) → ((x : ReferenceType) → o ≡ Some x → n ≡ Some x) → component_of o ≡ Some t → component_of n ≡ Some t
component_stays None n t g e = absurd (none_some t e)
component_stays (Some (class_type m)) n t g e = absurd (none_some t e)
component_stays (Some (array_type c)) n t g e = ap component_of (g (array_type c) refl) ∙ e

there_stays : (o n : Option ReferenceType) (d t : FieldDescriptor) → ((x : ReferenceType) → o ≡ Some x → n ≡ Some x) → option_map (λ x. d) o ≡ Some t → option_map (λ x. d) n ≡ Some t
there_stays None n d t g e = absurd (none_some t e)
there_stays (Some x) n d t g e = ap (option_map (λ y. d)) (g x refl) ∙ e

type_stays : (types next : Types) (place : Place) (t : FieldDescriptor) → Grows types next → type_at types place ≡ Some t → type_at next place ≡ Some t
type_stays types next (static_field name type) t g e = e
type_stays types next (field a name type) t g e = there_stays (types a) (next a) type t (g a) e
type_stays types next (elements a) t g e = component_stays (types a) (next a) t (g a) e

place_grows : (w : World) (types next : Types) (place : Place) (v : Value) → Grows types next → FitsPlace w types place v → FitsPlace w next place v
place_grows w types next place v g f = (f.0, type_stays types next place f.0 g f.1, type_grows w types next f.0 v g f.2)

-- each value of a history fits its place
abbrev pub AllFitPlaces : World → Types → History → Type 0
AllFitPlaces w types history = (s : Store) → IsAmong s history → FitsPlace w types s.place s.value

all_grow : (w : World) (types next : Types) (history : History) → Grows types next → AllFitPlaces w types history → AllFitPlaces w next history
all_grow w types next history g all s i = place_grows w types next s.place s.value g (all s i)

one_more : (w : World) (types : Types) (place : Place) (v : Value) (history : History) → FitsPlace w types place v → AllFitPlaces w types history → AllFitPlaces w types (store place v ∷ history)
one_more w types place v history f all s (inl e) = subst (λ z. FitsPlace w types z.place z.value) (sym e) f
one_more w types place v history f all s (inr i) = all s i

given_fits : (w : World) (types : Types) (history : History) (place : Place) (t : FieldDescriptor) (v : Value) → AllFitPlaces w types history → type_at types place ≡ Some t → IsGiven types history place v → FitsType w types t v
given_fits w types history place t v all e (inl d) =
    let p : default_of t ≡ v = some_same (default_of t) v (sym (ap (option_map default_of) e) ∙ d) in
    subst (λ z. FitsType w types t z) p (default_fits w types t)
given_fits w types history place t v all e (inr i) =
    let f = all (store place v) i in
    subst (λ z. FitsType w types z v) (some_same f.0 t (sym f.1 ∙ e)) f.2

-- ---- arrays

taken_same : (p q : Primitive) → takes_array p q ≡ true → computed_as p ≡ computed_as q
taken_same primitives.Byte primitives.Byte e = refl
taken_same primitives.Byte primitives.Boolean e = refl
taken_same primitives.Char primitives.Char e = refl
taken_same primitives.Short primitives.Short e = refl
taken_same primitives.Int primitives.Int e = refl
taken_same primitives.Long primitives.Long e = refl
taken_same primitives.Float primitives.Float e = refl
taken_same primitives.Double primitives.Double e = refl
taken_same _ _ e = cc

pub record HasElements (h : Heap) (p : Primitive) (a : ℕ) : Type 0 where
  pub component : Primitive
  pub at : h a ≡ Some (object (array_type (primitive component)) ready)
  pub kind : computed_as p ≡ computed_as component

pub array_for : (p : Primitive) (h : Heap) (a : ℕ) (x : ReferenceType) → h a ≡ Some (object x ready) → IsArrayFor p x → HasElements h p a
array_for p h a (array_type (primitive q)) e f = record { component = q; at = e; kind = taken_same p q f }
array_for p h a (array_type (class n)) e f = elim f [ ]
array_for p h a (array_type (array c)) e f = elim f [ ]
array_for p h a (class_type n) e f = elim f [ ]

pub record HasReferences (h : Heap) (a : ℕ) : Type 0 where
  pub component : FieldDescriptor
  pub at : h a ≡ Some (object (array_type component) ready)

pub array_of : (w : World) (h : Heap) (a : ℕ) (x : ReferenceType) → h a ≡ Some (object x ready) → IsBelow w x objects → HasReferences h a
array_of w h a (array_type c) e f = record { component = c; at = e }
array_of w h a (class_type n) e f = elim f [ ]

pub component_there : (types : Types) (status : ℕ → Status) (a : ℕ) (c : FieldDescriptor) (s : Status) → heap_in types status a ≡ Some (object (array_type c) s) → type_at types (elements a) ≡ Some c
component_there types status a c s e = ap component_of (there types status a (object (array_type c) s) e).0

pub one_object : (a b : ℕ) → reference a ≡ reference b → a ≡ b
one_object a b e = cc

-- ---- a read is a step of the machine

module _ (w : World) (types : Types) (a : Activation) where
  abbrev objects_now : Heap
  objects_now = heap_in types a.status

  -- the demands of an instruction on its operands
  abbrev pub Asked : Act → Type 0
  Asked act = AllMeet w objects_now (demands_of (effect a.method act)) a.stack

  pub asked : (act : Act) (n : IsNoFault w a.method (state_in types a)) → n.act ≡ act → Asked act
  asked act n e = subst (λ z. AllMeet w objects_now (demands_of (effect a.method z)) a.stack) e n.operands.operands

  module _ (fresh : List (ℕ × ReferenceType)) (to : ℕ) (v : Value) (below : List Value) where
    abbrev before : State
    before = record { at = a.at; stack = a.stack; locals = a.locals; heap = with_fresh objects_now fresh }

    abbrev after : State
    after = moved_with (state_in types a) to (v ∷ below) (with_fresh objects_now fresh)

    -- the effect goes on to the next instruction with this value
    record Gives (t : Effect) : Type 0 where
      does : Does w t before (Some v) to after
      no_targets : targets a.at t ≡ []
      goes_on : falls t ≡ true

    gives_static : (t : FieldDescriptor) → FitsField w (with_fresh objects_now fresh) t v → below ≡ a.stack → Gives (effects.operates [] None (effects.gives_answer t) [] true)
    gives_static t f e = record {
      does = (tt, (v ∷ [], (v, refl, f, refl), ap (λ z. moved before to (v ∷ z)) e));
      no_targets = refl;
      goes_on = refl;
    }

    gives_field : (n : effects.Demand) (t : FieldDescriptor) (o : ℕ) → FitsField w (with_fresh objects_now fresh) t v → a.stack ≡ reference o ∷ below → Gives (effects.operates (n ∷ []) (Some 0) (effects.gives_answer t) [] true)
    gives_field n t o f e = record {
      does = (
        (λ k. subst (λ z. IsNull (slice_get z 0)) e k),
        (v ∷ [], (v, refl, f, refl), ap (λ z. moved before to (v ∷ beneath (n ∷ []) z)) (sym e)),
      );
      no_targets = refl;
      goes_on = refl;
    }

    gives_number : (n k : effects.Demand) (t : FieldDescriptor) (i : Value) (o : ℕ) → FitsField w (with_fresh objects_now fresh) t v → a.stack ≡ i ∷ reference o ∷ below → Gives (effects.operates (n ∷ k ∷ []) (Some 1) (effects.gives_answer t) [] true)
    gives_number n k t i o f e = record {
      does = (
        (λ z. subst (λ y. IsNull (slice_get y 1)) e z),
        (v ∷ [], (v, refl, f, refl), ap (λ z. moved before to (v ∷ beneath (n ∷ k ∷ []) z)) (sym e)),
      );
      no_targets = refl;
      goes_on = refl;
    }

    gives_element : (i : Value) (o : ℕ) (c : FieldDescriptor) → with_fresh objects_now fresh o ≡ Some (object (array_type c) ready) → FitsField w (with_fresh objects_now fresh) c v → a.stack ≡ i ∷ reference o ∷ below → Gives effects.takes_element
    gives_element i o c at f e = record {
      does = (i, o, c, below, v, e, at, f, refl, refl);
      no_targets = refl;
      goes_on = refl;
    }

    gives : (history : History) (act : Act) (place : Place) → AllFitPlaces w types history → Asked act → IsFresh objects_now fresh
        → Reads a.method act a.stack place below → IsGiven types history place v → IsReady (with_fresh objects_now fresh) v → Gives (effect a.method act)
    gives history act place all k u r g y = go act k r
      where
        fits : (t : FieldDescriptor) → type_at types place ≡ Some t → FitsField w (with_fresh objects_now fresh) t v
        fits t e = ready_fits w types (with_fresh objects_now fresh) t v (fresh_grows types a.status fresh u) (given_fits w types history place t v all e g) y

        go : (act : Act) → Asked act → Reads a.method act a.stack place below → Gives (effect a.method act)
        go (acts.GetStatic i) k r = subst (λ z. Gives (effects.get_static z)) (sym r.1) (gives_static r.0.type (fits r.0.type (ap (type_at types) r.2)) r.3)
        go (acts.GetField i) k r =
            let f = r.0 in
            let meet : AllMeet w objects_now (demands_of (effects.get_field (Some f))) a.stack = subst (λ z. AllMeet w objects_now (demands_of (effects.get_field z)) a.stack) r.2 k in
            let object_fits = (subst (AllMeet w objects_now (demands_of (effects.get_field (Some f)))) r.4 meet).0 in
            let here_is = (there types a.status r.1 (object object_fits.0 ready) object_fits.1).0 in
            subst (λ z. Gives (effects.get_field z)) (sym r.2)
            (gives_field (of_type (class_type f.class)) f.type r.1 (fits f.type (ap (type_at types) r.3 ∙ ap (option_map (λ x. f.type)) here_is)) r.4)
        go (acts.LoadElement p) k r =
            let array_fits = (subst (AllMeet w objects_now (demands_of (effect a.method (acts.LoadElement p)))) r.3 k).1.0 in
            let it = array_for p objects_now r.1 array_fits.0 array_fits.1 array_fits.2 in
            let number_is : v ≡ number (computed_as it.component) = fits (primitive it.component) (ap (type_at types) r.2 ∙ component_there types a.status r.1 (primitive it.component) ready it.at) in
            gives_number _ _ (primitive p) r.0 r.1 (number_is ∙ ap number (sym it.kind)) r.3
        go acts.LoadReferenceElement k r =
            let array_fits = (subst (AllMeet w objects_now (demands_of (effect a.method acts.LoadReferenceElement))) r.3 k).1.0 in
            let it = array_of w objects_now r.1 array_fits.0 array_fits.1 array_fits.2 in
            gives_element r.0 r.1 it.component ((fresh_gains fresh objects_now u).keeps r.1 (object (array_type it.component) ready) it.at) (fits it.component (ap (type_at types) r.2 ∙ component_there types a.status r.1 it.component ready it.at)) r.3
        go _ k r = elim r [ ]

  -- ---- a value that is stored fits its place

  target_there : (b : Bool) (c : List ℕ) (o : ℕ) → Meets w objects_now (if b then own_or_of c else of_type (class_type c)) (reference o) → (x : ReferenceType) × (types o ≡ Some x)
  target_there true c o (inl f) = (f.0, (there types a.status o (object f.0 ready) f.1).0)
  target_there true c o (inr f) =
      let same : f.0 ≡ o = one_object f.0 o (sym f.2) in
      (f.1, (there types a.status o (object f.1 this) (subst (λ z. objects_now z ≡ Some (object f.1 this)) same f.3)).0)
  target_there false c o f = (f.0, (there types a.status o (object f.0 ready) f.1).0)

  pub store_fits : (act : Act) (place : Place) (v : Value) → Asked act → Writes a.method act a.stack place v → Takes w types place v → FitsPlace w types place v
  store_fits (acts.PutStatic i) place v k r n =
      let f = r.0 in
      let meet : AllMeet w objects_now (demands_of (effects.put_static (Some f))) a.stack = subst (λ z. AllMeet w objects_now (demands_of (effects.put_static z)) a.stack) r.2 k in
      let value_fits = (subst (AllMeet w objects_now (demands_of (effects.put_static (Some f)))) r.4 meet).0 in
      subst (λ z. FitsPlace w types z v) (sym r.3) (f.type, refl, by_type w types a.status f.type v (meets_field w objects_now f.type v value_fits))
  store_fits (acts.PutField i) place v k r n =
      let f = r.0 in
      let meet : AllMeet w objects_now (demands_of (effects.put_field a.method (Some f))) a.stack = subst (λ z. AllMeet w objects_now (demands_of (effects.put_field a.method z)) a.stack) r.3 k in
      let operands = subst (AllMeet w objects_now (demands_of (effects.put_field a.method (Some f)))) r.5 meet in
      let target = target_there (a.method.is_init && is_own_field a.method f) f.class r.1 operands.1.0 in
      subst (λ z. FitsPlace w types z v) (sym r.4)
      (f.type, ap (option_map (λ x. f.type)) target.1, by_type w types a.status f.type v (meets_field w objects_now f.type v operands.0))
  store_fits (acts.StoreElement p) place v k r n = subst (λ z. FitsPlace w types z v) (sym r.3) (subst (λ z. Takes w types z v) r.3 n)
  store_fits acts.StoreReferenceElement place v k r n = subst (λ z. FitsPlace w types z v) (sym r.3) (subst (λ z. Takes w types z v) r.3 n)
  store_fits _ place v k r n = elim r [ ]

-- ---- the types of a moment only grow

alone_grows : (w : World) (types : Types) (a : Activation) (callers : List Activation) (c : Choice) (q : Moment) → StepsAlone w types a callers c q → Grows types q.types
alone_grows w types a callers c q s = subst (λ z. Grows types z.types) (sym s.result) (step_grows w a.method types a c s.state s.happens)

answered_types : (types : Types) (answer : Option Value) (callers : List Activation) (q : Moment) → Answered types answer callers q → q.types ≡ types
answered_types types answer [] q s = ap (λ z. z.types) s
answered_types types answer (a ∷ callers) q s = ap (λ z. z.types) s.2

unwinds_grows : (w : World) (types : Types) (address : ℕ) (callers : List Activation) (q : Moment) → Unwinds w types address callers q → Grows types q.types
unwinds_grows w types address [] q s = subst (λ z. Grows types z.types) (sym s) (λ b x e. e)
unwinds_grows w types address (a ∷ callers) q (inl s) = alone_grows w types a callers (raise address [] (Some s.0)) q s.1
unwinds_grows w types address (a ∷ callers) q (inr s) = unwinds_grows w types address callers q s.1

module _ (w : World) (InPlay : Callee → Type 0) where
  pub goes_grows : (types : Types) (xs : List Activation) (q : Moment) → Goes w InPlay types xs q → Grows types q.types
  goes_grows types [] q s = elim s [ ]
  goes_grows types (a ∷ callers) q (inl s) = alone_grows w types a callers s.0 q s.1
  goes_grows types (a ∷ callers) q (inr (inl s)) = subst (λ z. Grows types z.types) (sym s.result) (λ b x e. e)
  goes_grows types (a ∷ callers) q (inr (inr (inl s))) =
      let g = fresh_grows types a.status s.fresh s.ends.unused in
      subst (λ z. Grows types z) (sym (answered_types _ _ callers q s.answered)) g
  goes_grows types (a ∷ callers) q (inr (inr (inr s))) =
      let g = fresh_grows types a.status s.fresh s.happens.1.unused in
      let u = unwinds_grows w _ s.address callers q s.unwinds in
      λ b x e. u b x (g b x e)

  elsewhere_goes : (types : Types) (xs : List Activation) (q : Moment) → StepsElsewhere w InPlay types xs q → Goes w InPlay types xs q
  elsewhere_goes types [] q s = s
  elsewhere_goes types (a ∷ callers) q (inl s) = inl (s.0, s.2)
  elsewhere_goes types (a ∷ callers) q (inr s) = inr s

  -- ---- each step is one of a class run, and each value of the history fits

  abbrev Held : Types → List Activation → HeapMoment → Type 0
  Held types xs q = Goes w InPlay types xs q.now × AllFitPlaces w q.now.types q.history

  read_goes : (types : Types) (history : History) (a : Activation) (callers : List Activation) (q : HeapMoment) → AllFitPlaces w types history → StepsByRead w types history a callers q → Held types (a ∷ callers) q
  read_goes types history a callers q all s =
      let k = asked w types a s.act s.no_fault (some_same s.no_fault.act s.act (sym s.no_fault.here ∙ s.here)) in
      let g = gives w types a s.fresh s.to s.value s.below history s.act s.place all k s.unused s.reads s.given s.ready in
      let steps : Steps w a.method (state_in types a) None (Some s.value) s.fresh s.state = record {
        act = s.act;
        here = s.here;
        unused = s.unused;
        to = s.to;
        branches = subst (λ z. IsBranch z None s.to) (sym g.no_targets) refl;
        goes = inr (g.goes_on, s.next);
        does = subst (λ z. Does w (effect a.method s.act) (before w types a s.fresh s.to s.value s.below) (Some s.value) s.to z) (sym s.after) g.does;
      } in
      let c = go None (Some s.value) s.fresh in
      let happens : Happens w a.method (state_in types a) c (goes_on s.state) = (s.no_fault, steps) in
      let m = moment (types_of s.state.heap) (activation a.method s.state ∷ callers) in
      let alone : StepsAlone w types a callers c m = record { state = s.state; happens = happens; result = refl } in
      subst (Held types (a ∷ callers)) (sym s.result) (inl (c, alone), all_grow w types m.types history (step_grows w a.method types a c s.state happens) all)

  store_goes : (types : Types) (history : History) (a : Activation) (callers : List Activation) (q : HeapMoment) → AllFitPlaces w types history → StepsByStore w types history a callers q → Held types (a ∷ callers) q
  store_goes types history a callers q all s =
      let n = s.happens.0 in
      let k = asked w types a s.act n (some_same n.act s.act (sym n.here ∙ s.here)) in
      let fits = store_fits w types a s.act s.place s.value k s.writes s.takes in
      let c = go None None s.fresh in
      let m = moment (types_of s.state.heap) (activation a.method s.state ∷ callers) in
      let alone : StepsAlone w types a callers c m = record { state = s.state; happens = s.happens; result = refl } in
      let grown = step_grows w a.method types a c s.state s.happens in
      subst (Held types (a ∷ callers)) (sym s.result) (inl (c, alone), all_grow w types m.types (store s.place s.value ∷ history) grown (one_more w types s.place s.value history fits all))

  access_goes : (types : Types) (history : History) (xs : List Activation) (q : HeapMoment) → AllFitPlaces w types history → Accesses w types history xs q → Held types xs q
  access_goes types history [] q all s = elim s [ ]
  access_goes types history (a ∷ callers) q all (inl s) = read_goes types history a callers q all s
  access_goes types history (a ∷ callers) q all (inr s) = store_goes types history a callers q all s

  -- ---- runs

  -- a class run that ends in this moment
  abbrev EndsIn : Moment → Type 0
  EndsIn q = (ps : List Moment) × IsClassRun w InPlay (q ∷ ps)

  abbrev HeldAt : HeapMoment → Type 0
  HeldAt q = EndsIn q.now × AllFitPlaces w q.now.types q.history

  next_held : (p q : HeapMoment) → HeldAt p → GoesWithHeap w InPlay p q → HeldAt q
  next_held p q k (inl s) =
      let g = elsewhere_goes p.now.types p.now.activations q.now s.0 in
      let all = all_grow w p.now.types q.now.types p.history (goes_grows p.now.types p.now.activations q.now g) k.1 in
      ((p.now ∷ k.0.0, (g, k.0.1)), subst (AllFitPlaces w q.now.types) (sym s.1) all)
  next_held p q k (inr (inl s)) =
      let g = access_goes p.now.types p.history p.now.activations q k.1 s in
      ((p.now ∷ k.0.0, (g.0, k.0.1)), g.1)
  next_held p q k (inr (inr s)) = subst HeldAt (sym s.result) (k.0, one_more w p.now.types s.place s.value p.history s.fits k.1)

  pub held : (q : HeapMoment) (ps : List HeapMoment) → IsHeapRun w InPlay (q ∷ ps) → HeldAt q
  held q [] r = (([], r.0), subst (AllFitPlaces w q.now.types) (sym r.1) (λ s i. elim i [ ]))
  held q (p ∷ ps) r = next_held p q (held p ps r.1) r.0

  pub held_among : (run : List HeapMoment) → IsHeapRun w InPlay run → (q : HeapMoment) → IsAmong q run → HeldAt q
  held_among [] r q i = elim r [ ]
  held_among (p ∷ []) r q (inl e) = subst HeldAt (sym e) (held p [] r)
  held_among (p ∷ []) r q (inr i) = elim i [ ]
  held_among (p ∷ (o ∷ os)) r q (inl e) = subst HeldAt (sym e) (held p (o ∷ os) r)
  held_among (p ∷ (o ∷ os)) r q (inr i) = held_among (o ∷ os) r.1 q i

pub playable_is_playable_with_heap : PlayableIsPlayableWithHeap
playable_is_playable_with_heap h cs playable w x run r q i a j =
    let k = (held_among w (IsInPlay cs) run r q i).0 in
    playable w x (q.now ∷ k.0) k.1 q.now (inl refl) a j

pub verified_is_playable_with_heap : VerifiedIsPlayableWithHeap
verified_is_playable_with_heap h hh cs v = playable_is_playable_with_heap h cs (verified_is_playable h hh cs v)
