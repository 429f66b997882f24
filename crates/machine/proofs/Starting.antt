-- How a method begins: the parts of it that say so, the values and objects that it begins with, and the values read
-- back from local variables.
use Rattle.std.proofs.Common.{◌≡◌, ◌⊎◌, inl, inr, ℕ, zero, suc, ◌+◌, ◌-◌, ◌≤◌, Bool, true, false, List, [], ◌∷◌, ◌++◌, length, replicate, Option, Some, None, refl, sym, ap, ◌∙◌, subst, arith, if◌then◌else◌}
use Rattle.std.proofs.lemmas.List.{length-append, length-replicate}
use Rattle.names.specs.Descriptors.{FieldDescriptor}
use Rattle.names.specs.ReferenceTypes.{ReferenceType}
use Rattle.hierarchy.specs.World.{World}
use Rattle.classfile.specs.Methods.{Method, Receiver, no_receiver, ready_receiver, own_receiver, receiver_of}
use Rattle.machine.specs.Values.{Value, reference, Slot, empty, second, holds, is_wide_value, in_slots, all_slots}
use Rattle.machine.specs.Heap.{this, object, Heap, AllFit}
use Rattle.machine.specs.Demands.{State}
use Rattle.machine.specs.Runs.{Receives, IsInitial, IsBeginning}
use Rattle.machine.specs.private.Beginnings.{Beginning, beginning_of, own_at, IsReceiver, IsOwnObject, ReceivesAs, BehindReceiver, MayBegin, receivers_of, values_of, StandIn}
use Rattle.machine.proofs.RunBreadth.{width, in_wide, in_narrow, taken}

-- ---- the receiver

received : {A : Type 0} (w : World) (m : Method A) (h : Heap) (own : ℕ) (r : Receiver) (vs : List Value) → Receives w m h own r vs → ReceivesAs w m.class h own r vs
received w m h own no_receiver vs e = e
received w m h own ready_receiver vs e = e
received w m h own own_receiver vs e = e

receives : {A : Type 0} (w : World) (m : Method A) (h : Heap) (own : ℕ) (r : Receiver) (vs : List Value) → ReceivesAs w m.class h own r vs → Receives w m h own r vs
receives w m h own no_receiver vs e = e
receives w m h own ready_receiver vs e = e
receives w m h own own_receiver vs e = e

one_receiver : {A : Type 0} (w : World) (m : Method A) (h : Heap) (own : ℕ) (r : Receiver) (vs : List Value) → Receives w m h own r vs → length vs ≡ receivers_of r
one_receiver w m h own no_receiver vs e = ap length e
one_receiver w m h own ready_receiver vs e = ap length e.1
one_receiver w m h own own_receiver vs e = ap length e.0

at_own : (r : Receiver) (own a : ℕ) → (r ≡ own_receiver) × (a ≡ own) → own_at r own ≡ Some a
at_own no_receiver own a e = absurd cc
at_own ready_receiver own a e = absurd cc
at_own own_receiver own a e = ap Some (sym e.1)

own_there : (r : Receiver) (own a : ℕ) → own_at r own ≡ Some a → (r ≡ own_receiver) × (a ≡ own)
own_there no_receiver own a e = absurd cc
own_there ready_receiver own a e = absurd cc
own_there own_receiver own a e = (refl, cc)

-- ---- arguments

as_many : (w : World) (h : Heap) (ts : List FieldDescriptor) (vs : List Value) → AllFit w h ts vs → length vs ≡ length ts
as_many w h [] [] f = refl
as_many w h [] (v ∷ vs) f = absurd f
as_many w h (t ∷ ts) [] f = absurd f
as_many w h (t ∷ ts) (v ∷ vs) f = ap suc (as_many w h ts vs f.1)

-- ---- beginnings

module _ {A : Type 0} (w : World) (m : Method A) where
  pub may_begin : (values : List Value) (heap : Heap) (s : State) → IsBeginning w m values heap s → MayBegin w (beginning_of m) values heap
  may_begin values heap s b =
      let i = b.initial in
      subst (MayBegin w (beginning_of m) values) b.with_objects (record {
        own = i.own;
        receiver = i.receiver;
        arguments = i.arguments;
        all = b.with_values;
        receives = received w m s.heap i.own (receiver_of m) i.receiver i.receives;
        behind = record {
          fit = i.fit;
          enough = subst (λ z. length (in_slots z) ≤ m.max_locals) (sym b.with_values) i.enough;
          are = record { objects = i.objects; none_made = i.none_made; only_own = λ a x e. at_own (receiver_of m) i.own a (i.only_own a x e) };
        };
      })

  pub begins_so : (values : List Value) (s : State) → MayBegin w (beginning_of m) values s.heap → s.at ≡ 0 → s.stack ≡ [] → s.locals ≡ all_slots m.max_locals values → IsBeginning w m values s.heap s
  begins_so values s b at stack locals = record {
    initial = record {
      at = at;
      stack = stack;
      own = b.own;
      receiver = b.receiver;
      arguments = b.arguments;
      receives = receives w m s.heap b.own (receiver_of m) b.receiver b.receives;
      fit = b.behind.fit;
      enough = subst (λ z. length (in_slots z) ≤ m.max_locals) b.all b.behind.enough;
      locals = locals ∙ ap (all_slots m.max_locals) b.all;
      objects = b.behind.are.objects;
      none_made = b.behind.are.none_made;
      only_own = λ a x e. own_there (receiver_of m) b.own a (b.behind.are.only_own a x e);
    };
    with_values = b.all;
    with_objects = refl;
  }

-- ---- values in local variables

module _ where
  pub slots_of : (v : Value) (vs : List Value) → (is_wide_value v ≡ true) × (in_slots (v ∷ vs) ≡ holds v ∷ second ∷ in_slots vs) ⊎ (is_wide_value v ≡ false) × (in_slots (v ∷ vs) ≡ holds v ∷ in_slots vs)
  slots_of v vs = elim (width v) [ inl q ↦ inl (q.0, in_wide v vs q.0) | inr q ↦ inr (q.0, in_narrow v vs q.0) ]

-- values that stand in the same local variables, as many, are the same
pub same_values : (count : ℕ) (slots : List Slot) (us vs : List Value) → StandIn count slots us → StandIn count slots vs → us ≡ vs
same_values zero slots [] [] a b = refl
same_values zero slots (u ∷ us) vs a b = absurd (omega (arith, a.many))
same_values zero slots [] (v ∷ vs) a b = absurd (omega (arith, b.many))
same_values (suc n) slots [] vs a b = absurd (omega (arith, a.many))
same_values (suc n) slots (u ∷ us) [] a b = absurd (omega (arith, b.many))
same_values (suc n) slots (u ∷ us) (v ∷ vs) a b = go (same_values n) (slots_of u us) (slots_of v vs)
  where
    Same : Type 0
    Same = (slots : List Slot) (us vs : List Value) → StandIn n slots us → StandIn n slots vs → us ≡ vs

    both : in_slots (u ∷ us) ++ replicate a.others empty ≡ in_slots (v ∷ vs) ++ replicate b.others empty
    both = sym a.are ∙ b.are

    rest : Same → (xs : List Slot) → xs ≡ in_slots us ++ replicate a.others empty → xs ≡ in_slots vs ++ replicate b.others empty → us ≡ vs
    rest same xs p q = same xs us vs (record { many = omega (arith, a.many); others = a.others; are = p }) (record { many = omega (arith, b.many); others = b.others; are = q })

    go : Same → (is_wide_value u ≡ true) × (in_slots (u ∷ us) ≡ holds u ∷ second ∷ in_slots us) ⊎ (is_wide_value u ≡ false) × (in_slots (u ∷ us) ≡ holds u ∷ in_slots us)
        → (is_wide_value v ≡ true) × (in_slots (v ∷ vs) ≡ holds v ∷ second ∷ in_slots vs) ⊎ (is_wide_value v ≡ false) × (in_slots (v ∷ vs) ≡ holds v ∷ in_slots vs)
        → u ∷ us ≡ v ∷ vs
    go same (inl p) (inl q) =
        let e : holds u ∷ second ∷ (in_slots us ++ replicate a.others empty) ≡ holds v ∷ second ∷ (in_slots vs ++ replicate b.others empty) =
        sym (ap (λ z. z ++ replicate a.others empty) p.1) ∙ both ∙ ap (λ z. z ++ replicate b.others empty) q.1 in
        let head : u ≡ v = cc in
        let tail : in_slots us ++ replicate a.others empty ≡ in_slots vs ++ replicate b.others empty = cc in
        ap (λ z. z ∷ us) head ∙ ap (λ z. v ∷ z) (rest same (in_slots us ++ replicate a.others empty) refl tail)
    go same (inr p) (inr q) =
        let e : holds u ∷ (in_slots us ++ replicate a.others empty) ≡ holds v ∷ (in_slots vs ++ replicate b.others empty) =
        sym (ap (λ z. z ++ replicate a.others empty) p.1) ∙ both ∙ ap (λ z. z ++ replicate b.others empty) q.1 in
        let head : u ≡ v = cc in
        let tail : in_slots us ++ replicate a.others empty ≡ in_slots vs ++ replicate b.others empty = cc in
        ap (λ z. z ∷ us) head ∙ ap (λ z. v ∷ z) (rest same (in_slots us ++ replicate a.others empty) refl tail)
    go same (inl p) (inr q) =
        let e : holds u ∷ second ∷ (in_slots us ++ replicate a.others empty) ≡ holds v ∷ (in_slots vs ++ replicate b.others empty) =
        sym (ap (λ z. z ++ replicate a.others empty) p.1) ∙ both ∙ ap (λ z. z ++ replicate b.others empty) q.1 in
        let head : u ≡ v = cc in
        let wide : true ≡ false = sym p.0 ∙ ap is_wide_value head ∙ q.0 in
        absurd cc
    go same (inr p) (inl q) =
        let e : holds u ∷ (in_slots us ++ replicate a.others empty) ≡ holds v ∷ second ∷ (in_slots vs ++ replicate b.others empty) =
        sym (ap (λ z. z ++ replicate a.others empty) p.1) ∙ both ∙ ap (λ z. z ++ replicate b.others empty) q.1 in
        let head : u ≡ v = cc in
        let wide : false ≡ true = sym p.0 ∙ ap is_wide_value head ∙ q.0 in
        absurd cc

module _ {A : Type 0} (w : World) (m : Method A) (s : State) where
  -- the values of a state in which the method begins
  abbrev pub values_in : IsInitial w m s → List Value
  values_in i = i.receiver ++ i.arguments

  pub many_values : (i : IsInitial w m s) → length (values_in i) ≡ values_of (beginning_of m)
  many_values i =
      let one = one_receiver w m s.heap i.own (receiver_of m) i.receiver i.receives in
      let many = as_many w s.heap m.type.params i.arguments i.fit in
      omega (arith, length-append i.receiver i.arguments, one, many)

  pub stand_in : (i : IsInitial w m s) → StandIn (values_of (beginning_of m)) s.locals (values_in i)
  stand_in i = record { many = many_values i; others = m.max_locals - length (in_slots (values_in i)); are = i.locals }

  pub many_locals : (i : IsInitial w m s) → length s.locals ≡ m.max_locals
  many_locals i =
      let vs = values_in i in
      let n = m.max_locals - length (in_slots vs) in
      omega (arith, ap length i.locals, length-append (in_slots vs) (replicate n empty), length-replicate n empty, i.enough)

  pub may_begin_in : (i : IsInitial w m s) → MayBegin w (beginning_of m) (values_in i) s.heap
  may_begin_in i = may_begin w m (values_in i) s.heap s (record { initial = i; with_values = refl; with_objects = refl })

  -- values that stand in all local variables
  pub in_all : (values : List Value) → length s.locals ≡ m.max_locals → StandIn (values_of (beginning_of m)) s.locals values → s.locals ≡ all_slots m.max_locals values
  in_all values many x =
      let n : x.others ≡ m.max_locals - length (in_slots values) = omega (arith, many, ap length x.are, length-append (in_slots values) (replicate x.others empty), length-replicate x.others empty) in
      x.are ∙ ap (λ z. in_slots values ++ replicate z empty) n

-- ---- the receiver and what stands after it

module _ (w : World) (b : Beginning) (heap : Heap) where
  module _ (e : b.receiver ≡ no_receiver) where
    no_own : (own : ℕ) → own_at b.receiver own ≡ None
    no_own own = ap (λ r. own_at r own) e

    pub begins_alone : (values : List Value) → MayBegin w b values heap → BehindReceiver w b None values values heap
    begins_alone values x =
        let none : x.receiver ≡ [] = subst (λ r. ReceivesAs w b.class heap x.own r x.receiver) e x.receives in
        let same : x.arguments ≡ values = sym (x.all ∙ ap (λ z. z ++ x.arguments) none) in
        subst (λ o. BehindReceiver w b o values values heap) (no_own x.own) (subst (λ z. BehindReceiver w b (own_at b.receiver x.own) values z heap) same x.behind)

    pub alone_begins : (values : List Value) → BehindReceiver w b None values values heap → MayBegin w b values heap
    alone_begins values x = record {
      own = 0;
      receiver = [];
      arguments = values;
      all = refl;
      receives = subst (λ r. ReceivesAs w b.class heap 0 r []) (sym e) refl;
      behind = subst (λ o. BehindReceiver w b o values values heap) (sym (no_own 0)) x;
    }

  module _ (e : b.receiver ≡ ready_receiver) where
    ready_at : (own : ℕ) → own_at b.receiver own ≡ None
    ready_at own = ap (λ r. own_at r own) e

    taken_ready : (values : List Value) (x : MayBegin w b values heap) → ReceivesAs w b.class heap x.own ready_receiver x.receiver
    taken_ready values x = subst (λ r. ReceivesAs w b.class heap x.own r x.receiver) e x.receives

    pub ready_some : MayBegin w b [] heap → ⊥
    ready_some x =
        let r = taken_ready [] x in
        let none : [] ≡ reference r.0 ∷ x.arguments = x.all ∙ ap (λ z. z ++ x.arguments) r.1 in
        cc

    pub ready_first : (v : Value) (rest : List Value) → MayBegin w b (v ∷ rest) heap → IsReceiver w b.class heap v × BehindReceiver w b None (v ∷ rest) rest heap
    ready_first v rest x =
        let r = taken_ready (v ∷ rest) x in
        let all : v ∷ rest ≡ reference r.0 ∷ x.arguments = x.all ∙ ap (λ z. z ++ x.arguments) r.1 in
        let first : v ≡ reference r.0 = cc in
        let others : x.arguments ≡ rest = cc in (
          (r.0, first, r.2),
          subst (λ o. BehindReceiver w b o (v ∷ rest) rest heap) (ready_at x.own) (subst (λ z. BehindReceiver w b (own_at b.receiver x.own) (v ∷ rest) z heap) others x.behind),
        )

    pub ready_begins : (v : Value) (rest : List Value) → IsReceiver w b.class heap v → BehindReceiver w b None (v ∷ rest) rest heap → MayBegin w b (v ∷ rest) heap
    ready_begins v rest i x = record {
      own = 0;
      receiver = v ∷ [];
      arguments = rest;
      all = refl;
      receives = subst (λ r. ReceivesAs w b.class heap 0 r (v ∷ [])) (sym e) (i.0, ap (λ z. z ∷ []) i.1, i.2);
      behind = subst (λ o. BehindReceiver w b o (v ∷ rest) rest heap) (sym (ready_at 0)) x;
    }

  module _ (e : b.receiver ≡ own_receiver) where
    its_own : (own : ℕ) → own_at b.receiver own ≡ Some own
    its_own own = ap (λ r. own_at r own) e

    taken_own : (values : List Value) (x : MayBegin w b values heap) → ReceivesAs w b.class heap x.own own_receiver x.receiver
    taken_own values x = subst (λ r. ReceivesAs w b.class heap x.own r x.receiver) e x.receives

    pub own_some : MayBegin w b [] heap → ⊥
    own_some x =
        let r = taken_own [] x in
        let none : [] ≡ reference x.own ∷ x.arguments = x.all ∙ ap (λ z. z ++ x.arguments) r.0 in
        cc

    pub own_first : (v : Value) (rest : List Value) → MayBegin w b (v ∷ rest) heap → (own : ℕ) × (v ≡ reference own) × IsOwnObject w b.class heap own × BehindReceiver w b (Some own) (v ∷ rest) rest heap
    own_first v rest x =
        let r = taken_own (v ∷ rest) x in
        let all : v ∷ rest ≡ reference x.own ∷ x.arguments = x.all ∙ ap (λ z. z ++ x.arguments) r.0 in
        let first : v ≡ reference x.own = cc in
        let others : x.arguments ≡ rest = cc in (
          x.own,
          first,
          r.1,
          subst (λ o. BehindReceiver w b o (v ∷ rest) rest heap) (its_own x.own) (subst (λ z. BehindReceiver w b (own_at b.receiver x.own) (v ∷ rest) z heap) others x.behind),
        )

    pub own_begins : (v : Value) (rest : List Value) (own : ℕ) → v ≡ reference own → IsOwnObject w b.class heap own → BehindReceiver w b (Some own) (v ∷ rest) rest heap → MayBegin w b (v ∷ rest) heap
    own_begins v rest own i o x = record {
      own = own;
      receiver = v ∷ [];
      arguments = rest;
      all = refl;
      receives = subst (λ r. ReceivesAs w b.class heap own r (v ∷ [])) (sym e) (ap (λ z. z ∷ []) i, o);
      behind = subst (λ z. BehindReceiver w b z (v ∷ rest) rest heap) (sym (its_own own)) x;
    }
