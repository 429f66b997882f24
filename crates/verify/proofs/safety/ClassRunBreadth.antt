-- Class runs leave nothing out.
use Rattle.std.proofs.Common.{◌≡◌, ℕ, zero, suc, ◌+◌, ◌-◌, Bool, true, false, nat_eq, List, [], ◌∷◌, ◌++◌, length, drop, slice_get, Option, Some, None, option_map, ◌⊎◌, inl, inr, if◌then◌else◌, sym, ap, refl, ◌∙◌, subst, arith, eqb-true, eq-eqb}
use Rattle.names.specs.Descriptors.{FieldDescriptor, primitive, class, array}
use Rattle.names.specs.ReferenceTypes.{ReferenceType}
use Rattle.pool.specs.ConstantMeanings.{MethodConstant}
use Rattle.classfile.specs.Methods.{Method, Receiver, no_receiver, ready_receiver, own_receiver, receiver_of}
use Rattle.hierarchy.specs.World.{World}
use Rattle.insn.specs.Meanings as acts
use Rattle.insn.specs.Meanings.{Act}
use Rattle.insn.specs.Offsets.{next_offset}
use Rattle.insn.specs.declared.kinds.Kind.{Kind}
use Rattle.insn.specs.Kinds.{computed_as, same_kind}
use Rattle.machine.specs.Values.{Value, number, null, reference, all_slots}
use Rattle.machine.specs.Heap.{Status, ready, this, Object, object, Heap, with_object, with_fresh}
use Rattle.machine.specs.Effects.{Effect, of_kind, where_allowed, leaves, return_number, return_reference, return_nothing, effect}
use Rattle.machine.specs.ByAct.{is_return}
use Rattle.machine.specs.Breadth.{StepBreadth}
use Rattle.machine.specs.Demands.{State, IsNoFault}
use Rattle.machine.specs.Steps.{Choice, go, raise, goes_on, ended, IsLast, Happens}
use Rattle.machine.specs.Runs.{IsInitial}
use Rattle.verify.specs.ClassRuns.{Callee, Types, Activation, heap_in, state_in, types_of, status_of, activation, Moment, moment, Way, static, special, virtual, by_way, called, IsReceiver, pushed, IsCall, MayEnter, first_status, entered, constructs, status_after, on_top, IsReadyAnswer, taken, resumed, handed_over, Answered, Returns, Unwinds, Raises, Goes, IsClassRun}
use Rattle.verify.specs.ClassRunSafety.{IsInPlay}
use Rattle.verify.specs.ClassRunBreadth.{Follows, Sees, Shows, with_types, named_method, receivers, IsOn, HasReceiver, AreOnTop, Calls, IsOfClass, MaySelect, Selects, IsOwnObject, IsEntered, handed, IsReadyFor, is_constructor_call, with_answer, IsAnswered, IsConstructed, IsResumed, IsReturn, Throws, DoNotCatch, ClassRunBreadth}
use Rattle.verify.proofs.safety.ClassCalls.{some_same}
use Rattle.verify.proofs.safety.ClassMoments.{none_some, seen, here}

-- ---- moments

same_types : (t u : Types) → ((a : ℕ) → t a ≡ u a) → t ≡ u
same_types t u p = λ i. λ a. p a i

views : (types : Types) (a : Activation) → Sees types a (state_in types a)
views types a = record {
  at = refl;
  stack = refl;
  locals = refl;
  objects = λ address x e. here types a.status address x (a.status address) e refl;
  others = λ address e. ap (option_map (λ x. object x (a.status address))) e;
}

pub shows : (m : Method Act) (s : State) (callers : List Activation) → Shows m s callers (moment (types_of s.heap) (activation m s ∷ callers))
shows m s callers = record {
  last = activation m s;
  activations = refl;
  method = refl;
  at = refl;
  stack = refl;
  locals = refl;
  objects = λ address o e. (ap (option_map (λ x. x.type)) e, ap status_of e);
  others = λ address e. ap (option_map (λ x. x.type)) e;
}

-- ---- new objects

put_types : (heap : Heap) (b : ℕ) (o : Object) → types_of (with_object heap b o) ≡ (λ a. if nat_eq b a then Some o.type else types_of heap a)
put_types heap b o = same_types (types_of (with_object heap b o)) (λ a. if nat_eq b a then Some o.type else types_of heap a) (λ a. go a (nat_eq b a))
  where
    go : (a : ℕ) (d : Bool) → option_map (λ x. x.type) (if d then Some o else heap a) ≡ (if d then Some o.type else types_of heap a)
    go a true = refl
    go a false = refl

fresh_types : (heap : Heap) (fresh : List (ℕ × ReferenceType)) → types_of (with_fresh heap fresh) ≡ with_types (types_of heap) fresh
fresh_types heap [] = refl
fresh_types heap (x ∷ xs) =
    fresh_types (with_object heap x.0 (object x.1 ready)) xs ∙ ap (λ t. with_types t xs) (put_types heap x.0 (object x.1 ready))

pub types_with : (types : Types) (status : ℕ → Status) (fresh : List (ℕ × ReferenceType)) → types_of (with_fresh (heap_in types status) fresh) ≡ with_types types fresh
types_with types status fresh =
    fresh_types (heap_in types status) fresh ∙ ap (λ t. with_types t fresh) (same_types (types_of (heap_in types status)) types (seen types status))

-- ---- values on the stack

next_item : (stack : List Value) (n : ℕ) (v : Value) → slice_get stack n ≡ Some v → drop n stack ≡ v ∷ drop (suc n) stack
next_item [] n v e = absurd (none_some v e)
next_item (u ∷ stack) zero v e = ap (λ z. z ∷ stack) (some_same u v e)
next_item (u ∷ stack) (suc n) v e = next_item stack n v e

are_pushed : (values below stack : List Value) → AreOnTop values below stack → stack ≡ pushed values below
are_pushed [] below stack k = k.beneath
are_pushed (v ∷ values) below stack k = are_pushed values (v ∷ below) stack record {
  each = λ i u e.
      let same : length (v ∷ values) - suc (suc i) ≡ length values - suc i = omega arith in
      subst (λ n. slice_get stack n ≡ Some u) same (k.each (suc i) u e);
  beneath =
      let first : length (v ∷ values) - suc 0 ≡ length values = omega arith in
      next_item stack (length values) v (subst (λ n. slice_get stack n ≡ Some v) first (k.each 0 v refl)) ∙ ap (λ z. v ∷ z) k.beneath;
}

first_of : (values : List Value) (address : ℕ) → IsOn address values → (vs : List Value) × (values ≡ reference address ∷ vs)
first_of [] address e = absurd (none_some (reference address) e)
first_of (v ∷ vs) address e = (vs, ap (λ z. z ∷ vs) (some_same v (reference address) e))

one_object : (a b : ℕ) → Some (reference a) ≡ Some (reference b) → a ≡ b
one_object a b e = cc

-- ---- calls

-- nothing, or the object that is the first value
abbrev Head : Way → List Value → List Value → Type 0
Head way receiver values = ((way ≡ static) × (receiver ≡ [])) ⊎ ((own : ℕ) × (receiver ≡ reference own ∷ []) × IsOn own values)

record Found (m : Method Act) (act : Act) (c : MethodConstant) (values : List Value) : Type 0 where
  way : Way
  calls : called m act ≡ Some (way, c)
  receiver : List Value
  arguments : List Value
  whole : receiver ++ arguments ≡ values
  one : IsReceiver way receiver
  all : length arguments ≡ length c.type.params
  head : Head way receiver values
  constructor : constructs way c ≡ is_constructor_call act c
  may : (w : World) (h : Heap) (n : Method Act) → MaySelect w h act c values n → MayEnter w h way c receiver n

found_on : (m : Method Act) (act : Act) (c : MethodConstant) (values : List Value) (way : Way) → called m act ≡ Some (way, c) → constructs way c ≡ is_constructor_call act c
    → ((own : ℕ) → IsReceiver way (reference own ∷ []))
    → ((w : World) (h : Heap) (n : Method Act) (own : ℕ) → IsOn own values → MaySelect w h act c values n → MayEnter w h way c (reference own ∷ []) n)
    → length values ≡ 1 + length c.type.params → (own : ℕ) × IsOn own values → Found m act c values
found_on m act c values way calls constructor one may many (own, is) =
    let (vs, e) = first_of values own is in
    let long : length vs ≡ length c.type.params = omega (arith, many, ap length e) in
    record {
      way = way;
      calls = calls;
      receiver = reference own ∷ [];
      arguments = vs;
      whole = sym e;
      one = one own;
      all = long;
      head = inr (own, refl, is);
      constructor = constructor;
      may = λ w h n k. may w h n own is k;
    }

on_receiver : (w : World) (h : Heap) (n : Method Act) (values : List Value) (own : ℕ) (c : MethodConstant) → IsOn own values → (n.is_static ≡ false) × IsOfClass w h n.class values
    → MayEnter w h virtual c (reference own ∷ []) n
on_receiver w h n values own c is (plain, of) =
    let same : of.0 ≡ own = one_object of.0 own (sym of.1 ∙ is) in
    (plain, (of.0, ap (λ a. reference a ∷ []) (sym same), (of.2.run_time, of.2.here, of.2.below)))

found : (m : Method Act) (act : Act) (c : MethodConstant) (values : List Value) → named_method m act ≡ Some c → length values ≡ receivers act + length c.type.params → HasReceiver act values → Found m act c values
found m (acts.InvokeStatic i) c values e many r = record {
  way = static;
  calls = ap (by_way static) e;
  receiver = [];
  arguments = values;
  whole = refl;
  one = refl;
  all = omega (arith, many);
  head = inl (refl, refl);
  constructor = refl;
  may = λ w h n k. k;
}
found m (acts.InvokeSpecial i) c values e many r =
    found_on m (acts.InvokeSpecial i) c values special (ap (by_way special) e) refl (λ own. (own, refl)) (λ w h n own is k. k) many r
found m (acts.InvokeVirtual i) c values e many r =
    found_on m (acts.InvokeVirtual i) c values virtual (ap (by_way virtual) e) refl (λ own. (own, refl)) (λ w h n own is k. on_receiver w h n values own c is k) many r
found m (acts.InvokeInterface i count) c values e many r =
    found_on m (acts.InvokeInterface i count) c values virtual (ap (by_way virtual) e) refl (λ own. (own, refl)) (λ w h n own is k. on_receiver w h n values own c is k) many r
found m _ c values e many r = absurd (none_some c e)

abbrev call_of : (a : Activation) (act : Act) (c : MethodConstant) (values below : List Value) → Calls a act c values below → Found a.method act c values → IsCall a
call_of a act c values below k f = record {
  act = act;
  here = k.here;
  way = f.way;
  constant = c;
  calls = f.calls;
  receiver = f.receiver;
  arguments = f.arguments;
  below = below;
  stack = are_pushed values below a.stack k.on_top ∙ ap (λ vs. pushed vs below) (sym f.whole);
  one = f.one;
  all = f.all;
}

-- ---- readiness in a method that is entered

static_has_none : (m : Method Act) → m.is_static ≡ true → receiver_of m ≡ no_receiver
static_has_none m e = rw e refl

none_is_own : no_receiver ≡ own_receiver → ⊥
none_is_own e = cc

is_this : (own address : ℕ) → own ≡ address → first_status own_receiver (reference own ∷ []) address ≡ this
is_this own address e = rw (eq-eqb own address e) refl

others_ready : (r : Receiver) (receiver values : List Value) (way : Way) (address : ℕ) → Head way receiver values → ((r ≡ own_receiver) × IsOn address values → ⊥) → first_status r receiver address ≡ ready
others_ready no_receiver receiver values way address h n = refl
others_ready ready_receiver receiver values way address h n = refl
others_ready own_receiver receiver values way address (inl h) n = ap (λ vs. first_status own_receiver vs address) h.1
others_ready own_receiver receiver values way address (inr (own, e, is)) n =
    ap (λ vs. first_status own_receiver vs address) e ∙ go (nat_eq own address) refl
  where
    go : (d : Bool) → nat_eq own address ≡ d → first_status own_receiver (reference own ∷ []) address ≡ ready
    go true p = absurd (n (refl, subst (λ z. IsOn z values) (eqb-true own address p) is))
    go false p = rw p refl

own_this : (m : Method Act) (receiver values : List Value) (way : Way) (address : ℕ) → Head way receiver values → (way ≡ static → m.is_static ≡ true) → IsOwnObject m values address → first_status (receiver_of m) receiver address ≡ this
own_this m receiver values way address (inl h) st (own, is) = absurd (none_is_own (sym (static_has_none m (st h.0)) ∙ own))
own_this m receiver values way address (inr (o, e, on)) st (own, is) =
    ap (λ r. first_status r receiver address) own ∙ ap (λ vs. first_status own_receiver vs address) e
    ∙ is_this o address (one_object o address (sym on ∙ is))

static_by : (w : World) (h : Heap) (way : Way) (c : MethodConstant) (receiver : List Value) (m : Method Act) → MayEnter w h way c receiver m → way ≡ static → m.is_static ≡ true
static_by w h static c receiver m k e = k.0
static_by w h special c receiver m k e = cc
static_by w h virtual c receiver m k e = cc

-- ---- readiness after a call

after_own : (own address : ℕ) (status : ℕ → Status) → own ≡ address → status_after true (reference own ∷ []) status address ≡ ready
after_own own address status e = rw (eq-eqb own address e) refl

after_other : (own address : ℕ) (status : ℕ → Status) → (own ≡ address → ⊥) → status_after true (reference own ∷ []) status address ≡ status address
after_other own address status n = go (nat_eq own address) refl
  where
    go : (d : Bool) → nat_eq own address ≡ d → status_after true (reference own ∷ []) status address ≡ status address
    go true p = absurd (n (eqb-true own address p))
    go false p = rw p refl

static_makes_none : (way : Way) (c : MethodConstant) → way ≡ static → constructs way c ≡ true → ⊥
static_makes_none static c e k = cc
static_makes_none special c e k = cc
static_makes_none virtual c e k = cc

-- ---- returns

leaves_by : (b : Bool) (t : Effect) (stack : List Value) → IsLast (where_allowed b t) → handed_over (where_allowed b t) stack ≡ handed_over t stack
leaves_by true t stack l = refl
leaves_by false t stack l = elim l [ ]

number_handed : (r : Option FieldDescriptor) (k : Kind) (stack : List Value) → IsLast (return_number r k) → handed_over (return_number r k) stack ≡ slice_get stack 0
number_handed None k stack l = elim l [ ]
number_handed (Some (primitive p)) k stack l = leaves_by (same_kind (computed_as p) k) (leaves (of_kind k ∷ [])) stack l
number_handed (Some (class n)) k stack l = elim l [ ]
number_handed (Some (array t)) k stack l = elim l [ ]

reference_handed : (r : Option FieldDescriptor) (stack : List Value) → IsLast (return_reference r) → handed_over (return_reference r) stack ≡ slice_get stack 0
reference_handed None stack l = elim l [ ]
reference_handed (Some (primitive p)) stack l = elim l [ ]
reference_handed (Some (class n)) stack l = refl
reference_handed (Some (array t)) stack l = refl

nothing_handed : (r : Option FieldDescriptor) (stack : List Value) → IsLast (return_nothing r) → handed_over (return_nothing r) stack ≡ None
nothing_handed None stack l = refl
nothing_handed (Some t) stack l = elim l [ ]

handed_is : (m : Method Act) (act : Act) (stack : List Value) → is_return act ≡ true → IsLast (effect m act) → handed_over (effect m act) stack ≡ handed act stack
handed_is m (acts.Return k) stack e l = number_handed m.type.result k stack l
handed_is m acts.ReturnReference stack e l = reference_handed m.type.result stack l
handed_is m acts.ReturnVoid stack e l = nothing_handed m.type.result stack l
handed_is m _ stack e l = cc

ready_answer : (types : Types) (a : Activation) (v : Option Value) → IsReadyFor types a v → IsReadyAnswer (heap_in types a.status) v
ready_answer types a None k = tt
ready_answer types a (Some (number kind)) k = tt
ready_answer types a (Some null) k = tt
ready_answer types a (Some (reference address)) k = (k.0, here types a.status address k.0 ready k.1 k.2)

top : (answer : Option Value) (below : List Value) → on_top answer below ≡ with_answer answer below
top None below = refl
top (Some v) below = refl

module _ (b : Activation) (act : Act) (c : MethodConstant) (values below : List Value) (f : Found b.method act c values) (answer : Option Value) (to : ℕ) where
  abbrev after : Activation
  after = resumed b (constructs f.way c) f.receiver below answer to

  is_answered : is_constructor_call act c ≡ false → IsAnswered b below answer after
  is_answered e =
      let plain : constructs f.way c ≡ false = f.constructor ∙ e in
      record {
        stack = ap (λ z. on_top (taken z answer) below) plain ∙ top answer below;
        objects = λ address. ap (λ z. status_after z f.receiver b.status address) plain;
      }

  own_ready : (address : ℕ) → constructs f.way c ≡ true → Head f.way f.receiver values → IsOn address values → status_after true f.receiver b.status address ≡ ready
  own_ready address e (inl h) is = absurd (static_makes_none f.way c h.0 e)
  own_ready address e (inr (own, one, on)) is =
      ap (λ vs. status_after true vs b.status address) one ∙ after_own own address b.status (one_object own address (sym on ∙ is))

  others_stay : (address : ℕ) → constructs f.way c ≡ true → Head f.way f.receiver values → (IsOn address values → ⊥) → status_after true f.receiver b.status address ≡ b.status address
  others_stay address e (inl h) n = absurd (static_makes_none f.way c h.0 e)
  others_stay address e (inr (own, one, on)) n =
      ap (λ vs. status_after true vs b.status address) one ∙ after_other own address b.status (λ p. n (subst (λ z. IsOn z values) p on))

  is_constructed : is_constructor_call act c ≡ true → IsConstructed b values below after
  is_constructed e =
      let made_so : constructs f.way c ≡ true = f.constructor ∙ e in
      let by : (address : ℕ) → after.status address ≡ status_after true f.receiver b.status address = λ address. ap (λ z. status_after z f.receiver b.status address) made_so in
      record {
        stack = ap (λ z. on_top (taken z answer) below) made_so;
        own = λ address is. by address ∙ own_ready address made_so f.head is;
        others = λ address n. by address ∙ others_stay address made_so f.head n;
      }

module _ (breadth : StepBreadth) (w : World) (InPlay : Callee → Type 0) where
  goes_to : (p q : Moment) (xs : List Activation) → p.activations ≡ xs → Goes w InPlay p.types xs q → Follows w InPlay p q
  goes_to p q xs e g ps run = (subst (λ z. Goes w InPlay p.types z q) (sym e) g, run)

  -- ---- an activation returns

  module _ (p : Moment) (a : Activation) (left : Act) (fresh : List (ℕ × ReferenceType)) (r : IsReturn w p.types a left fresh) where
    abbrev types_then : Types
    types_then = types_of (with_fresh (heap_in p.types a.status) fresh)

    returns_so : Happens w a.method (state_in p.types a) (go None None fresh) ended
    returns_so = (breadth w a.method (state_in p.types a) r.no_fault left r.here fresh r.new).returns r.returns

    same_act : returns_so.1.act ≡ left
    same_act = some_same returns_so.1.act left (sym returns_so.1.here ∙ r.here)

    handed_so : handed_over (effect a.method returns_so.1.act) a.stack ≡ handed left a.stack
    handed_so =
        ap (λ z. handed_over (effect a.method z) a.stack) same_act
        ∙ handed_is a.method left a.stack r.returns (subst (λ z. IsLast (effect a.method z)) same_act returns_so.1.last)

    answered_by : (callers : List Activation) (q : Moment) → Answered (with_types p.types fresh) (handed left a.stack) callers q → Returns w p.types a callers q
    answered_by callers q k = record {
      fresh = fresh;
      no_fault = returns_so.0;
      ends = returns_so.1;
      answered = subst (λ t. Answered t (handed_over (effect a.method returns_so.1.act) a.stack) callers q) (sym (types_with p.types a.status fresh))
          (subst (λ v. Answered (with_types p.types fresh) v callers q) (sym handed_so) k);
    }

  -- ---- an object is raised

  unwinds_to : (types : Types) (address : ℕ) (passed callers : List Activation) (b : Activation) (entry : ℕ) (s : State) → DoNotCatch w types address passed
      → Happens w b.method (state_in types b) (raise address [] (Some entry)) (goes_on s) → Unwinds w types address (passed ++ (b ∷ callers)) (moment (types_of s.heap) (activation b.method s ∷ callers))
  unwinds_to types address [] callers b entry s n k = inl (entry, record { state = s; happens = k; result = refl })
  unwinds_to types address (a ∷ passed) callers b entry s n k =
      inr (n a (inl refl), unwinds_to types address passed callers b entry s (λ x i. n x (inr i)) k)

  unwinds_out : (types : Types) (address : ℕ) (passed : List Activation) → DoNotCatch w types address passed → Unwinds w types address passed (moment types [])
  unwinds_out types address [] n = refl
  unwinds_out types address (a ∷ passed) n = inr (n a (inl refl), unwinds_out types address passed (λ x i. n x (inr i)))

  raises_by : (p : Moment) (a : Activation) (callers : List Activation) (address : ℕ) (fresh : List (ℕ × ReferenceType)) (q : Moment) → Throws w p.types address fresh a
      → Unwinds w (with_types p.types fresh) address callers q → Raises w p.types a callers q
  raises_by p a callers address fresh q k u = record {
    address = address;
    fresh = fresh;
    happens = k;
    unwinds = subst (λ t. Unwinds w t address callers q) (sym (types_with p.types a.status fresh)) u;
  }

  -- ---- all

  begins : (k : Callee) → InPlay k → (s : State) → IsInitial w k.method s → (q : Moment) × IsClassRun w InPlay (q ∷ []) × Shows k.method s [] q
  begins k i s initial =
      (moment (types_of s.heap) (activation k.method s ∷ []), record { callee = k; in_play = i; state = s; initial = initial; result = refl }, shows k.method s [])

  steps : (p : Moment) (a : Activation) (callers : List Activation) → p.activations ≡ a ∷ callers → (choice : Choice) (s : State)
      → Happens w a.method (state_in p.types a) choice (goes_on s) → (q : Moment) × Follows w InPlay p q × Shows a.method s callers q
  steps p a callers e choice s k =
      let q = moment (types_of s.heap) (activation a.method s ∷ callers) in
      (q, goes_to p q (a ∷ callers) e (inl (choice, record { state = s; happens = k; result = refl })), shows a.method s callers)

  calls : (p : Moment) (a : Activation) (callers : List Activation) → p.activations ≡ a ∷ callers → IsNoFault w a.method (state_in p.types a)
      → (act : Act) (c : MethodConstant) (values below : List Value) → Calls a act c values below → (k : Callee) → InPlay k → Selects w p.types a act c values k
      → (q : Moment) × Follows w InPlay p q × IsEntered p.types k.method values (a ∷ callers) q
  calls p a callers e n act c values below k callee i sel =
      let f = found a.method act c values k.named k.many k.receiver in
      let may = f.may w (heap_in p.types a.status) callee.method sel.method in
      let b = entered callee.method f.receiver f.arguments in
      let q = moment p.types (b ∷ (a ∷ callers)) in (
        q,
        goes_to p q (a ∷ callers) e
            (inr (inl record {
              no_fault = n;
              call = call_of a act c values below k f;
              callee = callee;
              in_play = i;
              name = sel.name;
              descriptor = sel.descriptor;
              may = may;
              result = refl;
            })),
        record {
          last = b;
          activations = refl;
          types_stay = refl;
          method = refl;
          at = refl;
          stack = refl;
          locals = ap (all_slots callee.method.max_locals) f.whole;
          own = λ address o. own_this callee.method f.receiver values f.way address f.head (static_by w (heap_in p.types a.status) f.way c f.receiver callee.method may) o;
          others = λ address o. others_ready (receiver_of callee.method) f.receiver values f.way address f.head o;
        },
      )

  returns : (p : Moment) (a b : Activation) (callers : List Activation) → p.activations ≡ a ∷ (b ∷ callers)
      → (left : Act) (fresh : List (ℕ × ReferenceType)) → IsReturn w p.types a left fresh
      → (act : Act) (c : MethodConstant) (values below : List Value) → Calls b act c values below
      → (to : ℕ) → next_offset b.method.code b.at ≡ Some to → IsReadyFor (with_types p.types fresh) b (handed left a.stack)
      → (q : Moment) × Follows w InPlay p q × IsResumed b act c values below (handed left a.stack) to (with_types p.types fresh) callers q
  returns p a b callers e left fresh r act c values below k to next is_ready =
      let f = found b.method act c values k.named k.many k.receiver in
      let types = with_types p.types fresh in
      let answer = handed left a.stack in
      let d = resumed b (constructs f.way c) f.receiver below answer to in
      let q = moment types (d ∷ callers) in (
        q,
        goes_to p q (a ∷ (b ∷ callers)) e
            (inr (inr (inl (answered_by p a left fresh r (b ∷ callers) q (
              d,
              record { call = call_of b act c values below k f; to = to; next = next; ready = ready_answer types b answer is_ready; result = refl },
              refl,
            ))))),
        record {
          last = d;
          activations = refl;
          types_are = refl;
          method = refl;
          at = refl;
          locals = refl;
          answered = is_answered b act c values below f answer to;
          constructed = is_constructed b act c values below f answer to;
        },
      )

  ends : (p : Moment) (a : Activation) → p.activations ≡ a ∷ [] → (left : Act) (fresh : List (ℕ × ReferenceType)) → IsReturn w p.types a left fresh
      → (q : Moment) × Follows w InPlay p q × (q.activations ≡ [])
  ends p a e left fresh r =
      let q = moment (with_types p.types fresh) [] in
      (q, goes_to p q (a ∷ []) e (inr (inr (inl (answered_by p a left fresh r [] q refl)))), refl)

  catches : (p : Moment) (a b : Activation) (passed callers : List Activation) → p.activations ≡ a ∷ (passed ++ (b ∷ callers))
      → (address : ℕ) (fresh : List (ℕ × ReferenceType)) → Throws w p.types address fresh a → DoNotCatch w (with_types p.types fresh) address passed
      → (entry : ℕ) (s : State) → Happens w b.method (state_in (with_types p.types fresh) b) (raise address [] (Some entry)) (goes_on s)
      → (q : Moment) × Follows w InPlay p q × Shows b.method s callers q
  catches p a b passed callers e address fresh k n entry s caught =
      let q = moment (types_of s.heap) (activation b.method s ∷ callers) in
      let u = unwinds_to (with_types p.types fresh) address passed callers b entry s n caught in
      (q, goes_to p q (a ∷ (passed ++ (b ∷ callers))) e (inr (inr (inr (raises_by p a (passed ++ (b ∷ callers)) address fresh q k u)))), shows b.method s callers)

  uncaught : (p : Moment) (a : Activation) (passed : List Activation) → p.activations ≡ a ∷ passed
      → (address : ℕ) (fresh : List (ℕ × ReferenceType)) → Throws w p.types address fresh a → DoNotCatch w (with_types p.types fresh) address passed
      → (q : Moment) × Follows w InPlay p q × (q.activations ≡ [])
  uncaught p a passed e address fresh k n =
      let q = moment (with_types p.types fresh) [] in
      (q, goes_to p q (a ∷ passed) e (inr (inr (inr (raises_by p a passed address fresh q k (unwinds_out (with_types p.types fresh) address passed n))))), refl)

pub class_run_breadth : StepBreadth → ClassRunBreadth
class_run_breadth breadth w cs = record {
  views = views;
  begins = begins breadth w (IsInPlay cs);
  steps = steps breadth w (IsInPlay cs);
  calls = calls breadth w (IsInPlay cs);
  returns = returns breadth w (IsInPlay cs);
  ends = ends breadth w (IsInPlay cs);
  catches = catches breadth w (IsInPlay cs);
  uncaught = uncaught breadth w (IsInPlay cs);
}
