-- One map of run-time types and the readiness of each activation: how a state of an activation is made of them, and
-- what becomes of it when the map grows.
use Rattle.std.proofs.Common.{◌≡◌, ℕ, Bool, true, false, nat_eq, List, [], ◌∷◌, Option, Some, None, option_map, ◌⊎◌, inl, inr, if◌then◌else◌, sym, ap, refl, ◌∙◌, subst, eqb-true}
use Rattle.names.specs.Descriptors.{FieldDescriptor, primitive, class, array}
use Rattle.names.specs.ReferenceTypes.{ReferenceType, class_type, array_type}
use Rattle.classfile.specs.Methods.{Method}
use Rattle.hierarchy.specs.World.{World, IsSubclassIn}
use Rattle.hierarchy.specs.Class.{ClassFact}
use Rattle.insn.specs.Meanings.{Act}
use Rattle.machine.specs.Values.{Value, number, null, reference}
use Rattle.machine.specs.Heap.{Status, ready, made, Object, object, Heap, with_object, FitsReference, FitsField, AllFit, IsFresh, with_fresh}
use Rattle.machine.specs.Effects as effects
use Rattle.machine.specs.Effects.{Effect, effect}
use Rattle.machine.specs.Demands.{State}
use Rattle.machine.specs.Steps.{Choice, go, raise, goes_on, Does, Happens}
use Rattle.verify.specs.TypeSafety.{IsTypeSafe}
use Rattle.verify.specs.ClassRuns.{Types, Activation, heap_in, state_in, types_of, status_of, activation}
use Rattle.verify.proofs.safety.Fits.{With, Gains}
use Rattle.verify.proofs.safety.News.{grows, fresh_gains}
use Rattle.verify.proofs.safety.Start.{first_view}
use Rattle.verify.proofs.safety.Run.{Inv}

pub none_some : {A : Type 0} (a : A) → None ≡ Some a → ⊥
none_some a e = cc

pub same_heaps : (h k : Heap) → ((a : ℕ) → h a ≡ k a) → h ≡ k
same_heaps h k p = λ i. λ a. p a i

-- ---- states of activations

back : (o : Option Object) → option_map (λ x. object x (status_of o)) (option_map (λ y. y.type) o) ≡ o
back None = refl
back (Some o) = refl

pub round : (types : Types) (m : Method Act) (t : State) → ((a : ℕ) → types_of t.heap a ≡ types a) → state_in types (activation m t) ≡ t
round types m t e =
    let p : (a : ℕ) → heap_in types (λ b. status_of (t.heap b)) a ≡ t.heap a = λ a. ap (option_map (λ x. object x (status_of (t.heap a)))) (sym (e a)) ∙ back (t.heap a) in
    ap (λ z. let s : State = record { at = t.at; stack = t.stack; locals = t.locals; heap = z } in s) (same_heaps (heap_in types (λ b. status_of (t.heap b))) t.heap p)

types_back : (o : Option ReferenceType) (s : Status) → option_map (λ y. y.type) (option_map (λ x. object x s) o) ≡ o
types_back None s = refl
types_back (Some x) s = refl

-- the types that an activation sees are those of the map
pub seen : (types : Types) (status : ℕ → Status) (a : ℕ) → types_of (heap_in types status) a ≡ types a
seen types status a = types_back (types a) (status a)

pub there : (types : Types) (status : ℕ → Status) (a : ℕ) (o : Object) → heap_in types status a ≡ Some o → (types a ≡ Some o.type) × (status a ≡ o.status)
there types status a o e = go (types a) refl
  where
    go : (t : Option ReferenceType) → types a ≡ t → (types a ≡ Some o.type) × (status a ≡ o.status)
    go None p = absurd (none_some o (sym (ap (option_map (λ x. object x (status a))) p) ∙ e))
    go (Some x) p =
        let q : Some (object x (status a)) ≡ Some o = sym (ap (option_map (λ x. object x (status a))) p) ∙ e in
        (p ∙ ap (option_map (λ y. y.type)) q, ap status_of q)

pub here : (types : Types) (status : ℕ → Status) (a : ℕ) (x : ReferenceType) (s : Status) → types a ≡ Some x → status a ≡ s → heap_in types status a ≡ Some (object x s)
here types status a x s e f = ap (option_map (λ y. object y (status a))) e ∙ ap (λ z. Some (object x z)) f

-- ---- the map grows

abbrev pub Grows : Types → Types → Type 0
Grows before behind = (a : ℕ) (x : ReferenceType) → before a ≡ Some x → behind a ≡ Some x

-- an unused address has no status but ready
abbrev pub Unused : Types → (ℕ → Status) → Type 0
Unused types status = (a : ℕ) → types a ≡ None → status a ≡ ready

unused_grows : (types next : Types) (status : ℕ → Status) → Grows types next → Unused types status → Unused next status
unused_grows types next status g u a e = go (types a) refl
  where
    go : (t : Option ReferenceType) → types a ≡ t → status a ≡ ready
    go None p = u a p
    go (Some x) p = absurd (none_some x (sym e ∙ g a x p))

heap_gains : (types next : Types) (status : ℕ → Status) → Grows types next → Unused types status → Gains (heap_in types status) (heap_in next status)
heap_gains types next status g u = record {
  keeps = λ a o e. let t = there types status a o e in here next status a o.type o.status (g a o.type t.0) t.1;
  gains = λ a o e. go a o (there next status a o e) (types a) refl;
}
  where
    go : (a : ℕ) (o : Object) → (next a ≡ Some o.type) × (status a ≡ o.status) → (t : Option ReferenceType) → types a ≡ t → (heap_in types status a ≡ Some o) ⊎ (o.status ≡ ready)
    go a o k None p = inr (sym k.1 ∙ u a p)
    go a o k (Some x) p =
        let q : Some x ≡ Some o.type = sym (g a x p) ∙ k.0 in
        inl (here types status a o.type o.status (p ∙ q) k.1)

-- ---- an activation at which the invariant holds

pub record Good (h : List ClassFact) (w : World) (types : Types) (a : Activation) : Type 0 where
  pub safe : IsTypeSafe h a.method
  pub super : (s : List ℕ) → a.method.superclass ≡ Some s → IsSubclassIn w a.method.class s
  pub own : ℕ
  pub inv : Inv w a.method own safe.table (state_in types a)
  pub unused : Unused types a.status

pub good_grows : (h : List ClassFact) (w : World) (types next : Types) (a : Activation) → Grows types next → Good h w types a → Good h w next a
good_grows h w types next a g k = record {
  safe = k.safe;
  super = k.super;
  own = k.own;
  inv = record {
    site = k.inv.site;
    home = k.inv.home;
    fits = grows (With (first_view w a.method k.own) k.inv.site k.inv.home) (state_in types a) (heap_in next a.status) (k.safe.table a.at) (heap_gains types next a.status g k.unused) k.inv.fits;
    start = k.inv.start;
    within = k.inv.within;
  };
  unused = unused_grows types next a.status g k.unused;
}

none_ready : (o : Option Object) → option_map (λ y. y.type) o ≡ None → status_of o ≡ ready
none_ready None e = refl
none_ready (Some o) e = cc

pub good_of : (h : List ClassFact) (w : World) (m : Method Act) (safe : IsTypeSafe h m) → ((s : List ℕ) → m.superclass ≡ Some s → IsSubclassIn w m.class s) → (own : ℕ) (t : State) → Inv w m own safe.table t → Good h w (types_of t.heap) (activation m t)
good_of h w m safe super own t inv = record {
  safe = safe;
  super = super;
  own = own;
  inv = subst (λ z. Inv w m own safe.table z) (sym (round (types_of t.heap) m t (λ a. refl))) inv;
  unused = λ a e. none_ready (t.heap a) e;
}

-- ---- a step only adds to the map

abbrev HeapGrows : Heap → Heap → Type 0
HeapGrows h k = Grows (types_of h) (types_of k)

gains_types : (h k : Heap) → Gains h k → HeapGrows h k
gains_types h k g a x e = go (h a) refl
  where
    go : (o : Option Object) → h a ≡ o → types_of k a ≡ Some x
    go None p = absurd (none_some x (sym (ap (option_map (λ y. y.type)) p) ∙ e))
    go (Some o) p =
        let q : Some o.type ≡ Some x = sym (ap (option_map (λ y. y.type)) p) ∙ e in
        ap (option_map (λ y. y.type)) (g.keeps a o p) ∙ q

put_grows : (h : Heap) (a : ℕ) (o : Object) → ((x : ReferenceType) → types_of h a ≡ Some x → o.type ≡ x) → HeapGrows h (with_object h a o)
put_grows h a o n b x e = go (nat_eq a b) refl
  where
    go : (d : Bool) → nat_eq a b ≡ d → option_map (λ y. y.type) (if nat_eq a b then Some o else h b) ≡ Some x
    go true i = rw i (ap Some (n x (subst (λ z. types_of h z ≡ Some x) (sym (eqb-true a b i)) e)))
    go false i = rw i e

kept : (h k : Heap) → k ≡ h → HeapGrows h k
kept h k q a x e = ap (λ z. types_of z a) q ∙ e

unused_put : (h : Heap) (a : ℕ) (o : Object) → h a ≡ None → HeapGrows h (with_object h a o)
unused_put h a o n = put_grows h a o (λ x e. absurd (none_some x (sym (ap (option_map (λ y. y.type)) n) ∙ e)))

put : (h k : Heap) (a : ℕ) (o : Object) → k ≡ with_object h a o → HeapGrows h (with_object h a o) → HeapGrows h k
put h k a o q g = subst (HeapGrows h) (sym q) g

same_put : (h : Heap) (a : ℕ) (x : ReferenceType) (s : Status) → h a ≡ Some (object x s) → HeapGrows h (with_object h a (object x ready))
same_put h a x s p = put_grows h a (object x ready) (λ y e. let q : Some x ≡ Some y = sym (ap (option_map (λ z. z.type)) p) ∙ e in cc)

does_grows : (w : World) (tk : Effect) (s : State) (v : Option Value) (q : ℕ) (t : State) → Does w tk s v q t → HeapGrows s.heap t.heap
does_grows w (effects.operates ns l r os b) s v q t d = kept s.heap t.heap (ap (λ z. z.heap) d.1.2)
does_grows w (effects.calls_special o ns l r) s v q t d = kept s.heap t.heap (ap (λ z. z.heap) d.1.2)
does_grows w (effects.reads k n) s v q t d = kept s.heap t.heap (ap (λ z. z.heap) d.3)
does_grows w (effects.writes k n j) s v q t d = kept s.heap t.heap (ap (λ z. z.heap) d.4)
does_grows w (effects.increments n) s v q t d = kept s.heap t.heap (ap (λ z. z.heap) d.1)
does_grows w (effects.moves fs) s v q t d = kept s.heap t.heap (ap (λ z. z.heap) d.4)
does_grows w effects.takes_element s v q t d = kept s.heap t.heap (ap (λ z. z.heap) d.9)
does_grows w (effects.passes r) s v q t d = kept s.heap t.heap (ap (λ z. z.heap) d.5)
does_grows w (effects.creates c) s v q t d = put s.heap t.heap d.0 (object (class_type c) made) (ap (λ z. z.heap) d.4) (unused_put s.heap d.0 _ d.2)
does_grows w (effects.makes_array ns r) s v q t d = put s.heap t.heap d.0 (object r ready) (ap (λ z. z.heap) d.4) (unused_put s.heap d.0 _ d.2)
does_grows w (effects.initializes c ns) s v q t d = put s.heap t.heap d.0 (object d.2 ready) (ap (λ z. z.heap) d.7) (same_put s.heap d.0 d.2 d.3 d.5)
does_grows w (effects.leaves ns) s v q t d = elim d [ ]
does_grows w (effects.throws x) s v q t d = elim d [ ]
does_grows w effects.ends s v q t d = elim d [ ]
does_grows w effects.stuck s v q t d = elim d [ ]

pub fresh_grows : (types : Types) (status : ℕ → Status) (fresh : List (ℕ × ReferenceType)) → IsFresh (heap_in types status) fresh → Grows types (types_of (with_fresh (heap_in types status) fresh))
fresh_grows types status fresh u a x e = gains_types (heap_in types status) _ (fresh_gains fresh (heap_in types status) u) a x (seen types status a ∙ e)

pub step_grows : (w : World) (m : Method Act) (types : Types) (a : Activation) (c : Choice) (t : State) → Happens w m (state_in types a) c (goes_on t) → Grows types (types_of t.heap)
step_grows w m types a (go br v fresh) t k b x e =
    let s = state_in types a in
    let d = k.1 in
    let u : State = record { at = s.at; stack = s.stack; locals = s.locals; heap = with_fresh s.heap fresh } in
    does_grows w (effect m d.act) u v d.to t d.does b x (fresh_grows types a.status fresh d.unused b x e)
step_grows w m types a (raise o fresh None) t k b x e = elim k [ ]
step_grows w m types a (raise o fresh (Some n)) t k b x e =
    let s = state_in types a in
    kept (with_fresh s.heap fresh) t.heap (ap (λ z. z.heap) k.1.result) b x (fresh_grows types a.status fresh k.1.raised.unused b x e)

-- ---- what is ready in one view, in another

abbrev pub KeepsReady : Heap → Heap → Type 0
KeepsReady h k = (a : ℕ) (x : ReferenceType) → h a ≡ Some (object x ready) → k a ≡ Some (object x ready)

pub reference_in : (w : World) (h k : Heap) (t : ReferenceType) (v : Value) → KeepsReady h k → FitsReference w h t v → FitsReference w k t v
reference_in w h k t (number j) g f = f
reference_in w h k t null g f = tt
reference_in w h k t (reference a) g f = (f.0, g a f.0 f.1, f.2)

pub field_in : (w : World) (h k : Heap) (t : FieldDescriptor) (v : Value) → KeepsReady h k → FitsField w h t v → FitsField w k t v
field_in w h k (primitive p) v g f = f
field_in w h k (class n) v g f = reference_in w h k (class_type n) v g f
field_in w h k (array c) v g f = reference_in w h k (array_type c) v g f

pub all_in : (w : World) (h k : Heap) (ts : List FieldDescriptor) (vs : List Value) → KeepsReady h k → AllFit w h ts vs → AllFit w k ts vs
all_in w h k [] [] g f = tt
all_in w h k (t ∷ ts) (v ∷ vs) g f = (field_in w h k t v g f.0, all_in w h k ts vs g f.1)
all_in w h k [] (v ∷ vs) g f = elim f [ ]
all_in w h k (t ∷ ts) [] g f = elim f [ ]
