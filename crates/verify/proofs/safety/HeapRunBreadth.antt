-- Class runs with a history leave nothing out and add nothing.
use Rattle.std.proofs.Common.{◌≡◌, ℕ, Bool, true, false, List, [], ◌∷◌, ◌++◌, drop, slice_get, Option, Some, None, ◌⊎◌, inl, inr, sym, ap, refl, ◌∙◌, subst}
use Rattle.names.specs.ReferenceTypes.{ReferenceType}
use Rattle.hierarchy.specs.World.{World}
use Rattle.insn.specs.Meanings as acts
use Rattle.insn.specs.Meanings.{Act}
use Rattle.insn.specs.Offsets.{at_offset, IsAmong}
use Rattle.machine.specs.Values.{Value}
use Rattle.machine.specs.Heap.{object, IsFresh, with_fresh}
use Rattle.machine.specs.Effects.{targets, effect}
use Rattle.machine.specs.Steps.{Choice, go, raise, goes_on, Does, moved_with, IsBranch, GoesTo, IsLast, Steps, Happens}
use Rattle.verify.specs.ClassRuns.{Callee, Types, Activation, heap_in, state_in, types_of, status_of, activation, called, Moment, moment, StepsAlone}
use Rattle.verify.specs.ClassRunSafety.{IsInPlay}
use Rattle.verify.specs.ClassRunBreadth.{IsReadyFor, with_types}
use Rattle.verify.specs.HeapRuns.{Place, Store, store, History, HeapMoment, heap_moment, IsGiven, Reads, StepsByRead, Writes, StepsByStore, is_access, IsNoAccess, StepsElsewhere, Accesses, OthersStore, GoesWithHeap}
use Rattle.verify.specs.HeapRunBreadth.{GoesOnTo, place_read, place_stored_to, operands_of_access, MayGive, MayTake, IsAfter, IsAt, IsReadOf, IsStoreTo, RaisesOrWaits, ComesFromHistory, GoesByHistory, HasHeapRuns, HeapRunBreadth, EachMomentIsSafe}
use Rattle.verify.proofs.safety.News.{fresh_gains}
use Rattle.verify.proofs.safety.ClassCalls.{some_same}
use Rattle.verify.proofs.safety.ClassMoments.{here, none_some}
use Rattle.verify.proofs.safety.ClassRunBreadth.{shows, types_with}
use Rattle.verify.proofs.safety.HeapRuns.{asked, Asked, held}
use Rattle.verify.proofs.safety.HeapPlaces.{hold_fits, fits_hold, gives, given_back, new_are_fresh, reads_so, writes_so, read_place, stored_place, read_is_access, store_is_access, access_calls_none, access_is_not_last}
use Rattle.verify.proofs.safety.HeapAccesses.{before, after, ready_then, store_passes, store_passed, taken_so, takes_so, IsReadBy, goes_next, read_static, read_field, read_element, read_reference, IsStoreBy, store_static, store_field, store_element, store_reference}

is_after : (p : HeapMoment) (a : Activation) (fresh : List (ℕ × ReferenceType)) → IsFresh (heap_in p.now.types a.status) fresh → (to : ℕ) (stack : List Value) (callers : List Activation) (history : History)
    → IsAfter p a stack fresh to callers
    (heap_moment (moment (types_of (with_fresh (heap_in p.now.types a.status) fresh)) (activation a.method (moved_with (state_in p.now.types a) to stack (with_fresh (heap_in p.now.types a.status) fresh)) ∷ callers)) history)
is_after p a fresh u to stack callers history = record {
  last = activation a.method (moved_with (state_in p.now.types a) to stack (with_fresh (heap_in p.now.types a.status) fresh));
  activations = refl;
  types_are = types_with p.now.types a.status fresh;
  method = refl;
  at = refl;
  stack_is = refl;
  locals = refl;
  objects = λ b x e. ap status_of ((fresh_gains fresh (heap_in p.now.types a.status) u).keeps b (object x (a.status b)) (here p.now.types a.status b x (a.status b) e refl));
}

module _ (w : World) (InPlay : Callee → Type 0) where
  goes_access : (p q : HeapMoment) (xs : List Activation) → p.now.activations ≡ xs → Accesses w p.now.types p.history xs q → GoesOnTo w InPlay p q
  goes_access p q xs e s ps run = (inr (inl (subst (λ z. Accesses w p.now.types p.history z q) (sym e) s)), run)

  reads : (p : HeapMoment) (a : Activation) (callers : List Activation) (act : Act) (fresh : List (ℕ × ReferenceType)) (to : ℕ) → IsAt w p a callers act fresh to
      → (place : Place) → place_read a.method act a.stack ≡ Some place → (v : Value) → MayGive p place v → IsReadyFor (with_types p.now.types fresh) a (Some v)
      → (q : HeapMoment) × GoesOnTo w InPlay p q × IsAfter p a (v ∷ drop (operands_of_access act) a.stack) fresh to callers q × (q.history ≡ p.history)
  reads p a callers act fresh to k place e v g r =
      let types = p.now.types in
      let u = new_are_fresh (heap_in types a.status) fresh k.new in
      let below = drop (operands_of_access act) a.stack in
      let state = moved_with (state_in types a) to (v ∷ below) (with_fresh (heap_in types a.status) fresh) in
      let q = heap_moment (moment (types_of state.heap) (activation a.method state ∷ callers)) p.history in
      let s : StepsByRead w types p.history a callers q = record {
        no_fault = k.no_fault;
        act = act;
        here = k.here;
        place = place;
        below = below;
        reads = reads_so a.method act a.stack place e;
        value = v;
        given = gives w types p.history place v g;
        fresh = fresh;
        unused = u;
        ready = ready_then w types a fresh u v r;
        to = to;
        next = k.next;
        state = state;
        after = refl;
        result = refl;
      } in
      (q, goes_access p q (a ∷ callers) k.activations (inl s), is_after p a fresh u to (v ∷ below) callers p.history, refl)

  store_step : (p : HeapMoment) (a : Activation) (callers : List Activation) (act : Act) (fresh : List (ℕ × ReferenceType)) (to : ℕ) → IsAt w p a callers act fresh to
      → (place : Place) (v : Value) → Writes a.method act a.stack place v
      → Happens w a.method (state_in p.now.types a) (go None None fresh) (goes_on (after w p.now.types a fresh to (drop (operands_of_access act) a.stack)))
  store_step p a callers act fresh to k place v r =
      let types = p.now.types in
      let g = store_passes w types a fresh act place v to r in
      let steps : Steps w a.method (state_in types a) None None fresh (after w types a fresh to (drop (operands_of_access act) a.stack)) = record {
        act = act;
        here = k.here;
        unused = new_are_fresh (heap_in types a.status) fresh k.new;
        to = to;
        branches = subst (λ z. IsBranch z None to) (sym g.no_targets) refl;
        goes = inr (g.goes_on, k.next);
        does = g.does;
      } in
      (k.no_fault, steps)

  stores : (p : HeapMoment) (a : Activation) (callers : List Activation) (act : Act) (fresh : List (ℕ × ReferenceType)) (to : ℕ) → IsAt w p a callers act fresh to
      → (place : Place) → place_stored_to a.method act a.stack ≡ Some place → (v : Value) → slice_get a.stack 0 ≡ Some v → MayTake w p.now.types act place v
      → (q : HeapMoment) × GoesOnTo w InPlay p q × IsAfter p a (drop (operands_of_access act) a.stack) fresh to callers q × (q.history ≡ store place v ∷ p.history)
  stores p a callers act fresh to k place e v d n =
      let types = p.now.types in
      let r = writes_so a.method act a.stack place v e d in
      let asked_here = asked w types a act k.no_fault (some_same k.no_fault.act act (sym k.no_fault.here ∙ k.here)) in
      let state = after w types a fresh to (drop (operands_of_access act) a.stack) in
      let q = heap_moment (moment (types_of state.heap) (activation a.method state ∷ callers)) (store place v ∷ p.history) in
      let s : StepsByStore w types p.history a callers q = record {
        act = act;
        here = k.here;
        place = place;
        value = v;
        writes = r;
        takes = takes_so w types a fresh act place v asked_here r n;
        fresh = fresh;
        state = state;
        happens = store_step p a callers act fresh to k place v r;
        result = refl;
      } in
      (q, goes_access p q (a ∷ callers) k.activations (inr s), is_after p a fresh (new_are_fresh (heap_in types a.status) fresh k.new) to (drop (operands_of_access act) a.stack) callers (store place v ∷ p.history), refl)

  -- ---- class runs whose answers come from a history

  module _ (p : HeapMoment) (q : Moment) where
    abbrev Tie : Type 0
    Tie = (h : HeapMoment) × (h.now ≡ q) × GoesOnTo w InPlay p h

    elsewhere : (xs : List Activation) → p.now.activations ≡ xs → StepsElsewhere w InPlay p.now.types xs q → Tie
    elsewhere xs e s = (heap_moment q p.history, refl, λ ps run. (inl (subst (λ z. StepsElsewhere w InPlay p.now.types z q) (sym e) s, refl), run))

    module _ (a : Activation) (callers : List Activation) (e : p.now.activations ≡ a ∷ callers)
        (branch : Option ℕ) (answer : Option Value) (fresh : List (ℕ × ReferenceType)) (s : StepsAlone w p.now.types a callers (go branch answer fresh) q)
        (from : ComesFromHistory w p a (go branch answer fresh)) where
      abbrev types_now : Types
      types_now = p.now.types

      read_tie : (act : Act) (to : ℕ) → at_offset a.method.code a.at ≡ Some act → IsFresh (heap_in types_now a.status) fresh → IsReadBy w types_now a fresh act answer to s.state → Tie
      read_tie act to at u r =
          let k = (from act at).0 r.place r.place_is in
          let same : k.0 ≡ r.value = some_same k.0 r.value (sym k.1 ∙ r.answered) in
          let h = heap_moment q p.history in
          let step : StepsByRead w types_now p.history a callers h = record {
            no_fault = s.happens.0;
            act = act;
            here = at;
            place = r.place;
            below = r.below;
            reads = r.reads;
            value = r.value;
            given = subst (IsGiven types_now p.history r.place) same (gives w types_now p.history r.place k.0 k.2);
            fresh = fresh;
            unused = u;
            ready = r.ready;
            to = to;
            next = r.next;
            state = s.state;
            after = r.after_is;
            result = ap (λ z. heap_moment z p.history) s.result;
          } in
          (h, refl, goes_access p h (a ∷ callers) e (inl step))

      store_tie : (act : Act) → at_offset a.method.code a.at ≡ Some act → Asked w types_now a act → IsStoreBy w types_now a fresh act branch answer → Tie
      store_tie act at k r =
          let writes = writes_so a.method act a.stack r.place r.value r.place_is r.value_is in
          let h = heap_moment q (store r.place r.value ∷ p.history) in
          let step : StepsByStore w types_now p.history a callers h = record {
            act = act;
            here = at;
            place = r.place;
            value = r.value;
            writes = writes;
            takes = takes_so w types_now a fresh act r.place r.value k writes ((from act at).1 r.place r.value r.place_is r.value_is);
            fresh = fresh;
            state = s.state;
            happens = subst (λ z. Happens w a.method (state_in types_now a) (go None z fresh) (goes_on s.state)) r.no_answer
                (subst (λ z. Happens w a.method (state_in types_now a) (go z answer fresh) (goes_on s.state)) r.no_branch s.happens);
            result = ap (λ z. heap_moment z (store r.place r.value ∷ p.history)) s.result;
          } in
          (h, refl, goes_access p h (a ∷ callers) e (inr step))

      access_tie : (act : Act) (to : ℕ) → is_access act ≡ true → at_offset a.method.code a.at ≡ Some act → Asked w types_now a act → IsFresh (heap_in types_now a.status) fresh
          → IsBranch (targets a.at (effect a.method act)) branch to → GoesTo a.method a.at (effect a.method act) to → Does w (effect a.method act) (before w types_now a fresh) answer to s.state → Tie
      access_tie (acts.GetStatic i) to x at k u b g d = read_tie (acts.GetStatic i) to at u (read_static w types_now a fresh answer to s.state i _ refl g d)
      access_tie (acts.GetField i) to x at k u b g d = read_tie (acts.GetField i) to at u (read_field w types_now a fresh answer to s.state i _ refl k g d)
      access_tie (acts.LoadElement p) to x at k u b g d = read_tie (acts.LoadElement p) to at u (read_element w types_now a fresh answer to s.state p k g d)
      access_tie acts.LoadReferenceElement to x at k u b g d = read_tie acts.LoadReferenceElement to at u (read_reference w types_now a fresh answer to s.state g d)
      access_tie (acts.PutStatic i) to x at k u b g d = store_tie (acts.PutStatic i) at k (store_static w types_now a fresh branch answer to s.state i _ refl k b d)
      access_tie (acts.PutField i) to x at k u b g d = store_tie (acts.PutField i) at k (store_field w types_now a fresh branch answer to s.state i _ refl k b d)
      access_tie (acts.StoreElement p) to x at k u b g d = store_tie (acts.StoreElement p) at k (store_element w types_now a fresh branch answer to s.state p k b d)
      access_tie acts.StoreReferenceElement to x at k u b g d = store_tie acts.StoreReferenceElement at k (store_reference w types_now a fresh branch answer to s.state k b d)
      access_tie _ to x at k u b g d = cc

      go_tie : (b : Bool) → is_access s.happens.1.act ≡ b → Tie
      go_tie true x =
          let n = s.happens.0 in
          let steps = s.happens.1 in
          access_tie steps.act steps.to x steps.here (asked w types_now a steps.act n (some_same n.act steps.act (sym n.here ∙ steps.here))) steps.unused steps.branches steps.goes steps.does
      go_tie false x =
          let no : IsNoAccess a (go branch answer fresh) = λ act at. ap is_access (some_same act s.happens.1.act (sym at ∙ s.happens.1.here)) ∙ x in
          elsewhere (a ∷ callers) e (inl (go branch answer fresh, no, s))

    alone_tie : (a : Activation) (callers : List Activation) → p.now.activations ≡ a ∷ callers → (c : Choice) (s : StepsAlone w p.now.types a callers c q) → ComesFromHistory w p a c → Tie
    alone_tie a callers e (raise address fresh entry) s k = elsewhere (a ∷ callers) e (inl (raise address fresh entry, tt, s))
    alone_tie a callers e (go branch answer fresh) s k = go_tie a callers e branch answer fresh s k _ refl

    tie : (xs : List Activation) → p.now.activations ≡ xs → GoesByHistory w InPlay p xs q → Tie
    tie [] e s = elim s [ ]
    tie (a ∷ callers) e (inl s) = alone_tie a callers e s.0 s.2 s.1
    tie (a ∷ callers) e (inr s) = elsewhere (a ∷ callers) e (inr s)

  -- ---- stores stay

  access_keeps : (p q : HeapMoment) (xs : List Activation) → Accesses w p.now.types p.history xs q → (s : Store) → IsAmong s p.history → IsAmong s q.history
  access_keeps p q [] k s i = elim k [ ]
  access_keeps p q (a ∷ callers) (inl k) s i = subst (λ z. IsAmong s z.history) (sym k.result) i
  access_keeps p q (a ∷ callers) (inr k) s i = subst (λ z. IsAmong s z.history) (sym k.result) (inr i)

  keeps : (p q : HeapMoment) → GoesWithHeap w InPlay p q → (s : Store) → IsAmong s p.history → IsAmong s q.history
  keeps p q (inl k) s i = subst (IsAmong s) (sym k.1) i
  keeps p q (inr (inl k)) s i = access_keeps p q p.now.activations k s i
  keeps p q (inr (inr k)) s i = subst (λ z. IsAmong s z.history) (sym k.result) (inr i)

  -- ---- nothing else is read or stored

  module _ (p q : HeapMoment) (a : Activation) (callers : List Activation) (act : Act) (at : at_offset a.method.code a.at ≡ Some act) (access : is_access act ≡ true) where
    no_access : {A : Type 0} → is_access act ≡ false → A
    no_access e = absurd (let wrong : true ≡ false = sym access ∙ e in cc)

    -- all other steps
    other_step : {A : Type 0} → StepsElsewhere w InPlay p.now.types (a ∷ callers) q.now → A ⊎ RaisesOrWaits w p a callers q
    other_step (inl (go branch answer fresh, none, s)) = no_access (none act at)
    other_step (inl (raise address fresh entry, none, s)) = inr (inl (address, fresh, entry, s))
    other_step (inr (inl s)) =
        let same : s.call.act ≡ act = some_same s.call.act act (sym s.call.here ∙ at) in
        absurd (none_some _ (sym (ap (called a.method) same ∙ access_calls_none a.method act access) ∙ s.call.calls))
    other_step (inr (inr (inl s))) =
        let same : s.ends.act ≡ act = some_same s.ends.act act (sym s.ends.here ∙ at) in
        absurd (access_is_not_last a.method act access (subst (λ z. IsLast (effect a.method z)) same s.ends.last))
    other_step (inr (inr (inr s))) = inr (inr (inl s))

    abbrev reached : (fresh : List (ℕ × ReferenceType)) (to : ℕ) (stack : List Value) (history : History) → HeapMoment
    reached fresh to stack history =
        let state = moved_with (state_in p.now.types a) to stack (with_fresh (heap_in p.now.types a.status) fresh) in
        heap_moment (moment (types_of state.heap) (activation a.method state ∷ callers)) history

    read_of : (place : Place) → place_read a.method act a.stack ≡ Some place → StepsByRead w p.now.types p.history a callers q → IsReadOf p a callers act place q
    read_of place e s =
        let same : s.act ≡ act = some_same s.act act (sym s.here ∙ at) in
        let k = read_place a.method act a.stack s.place s.below (subst (λ z. Reads a.method z a.stack s.place s.below) same s.reads) in
        let one : s.place ≡ place = some_same s.place place (sym k.0 ∙ e) in
        let below = drop (operands_of_access act) a.stack in
        let is : q ≡ reached s.fresh s.to (s.value ∷ below) p.history =
        s.result ∙ ap (λ z. heap_moment (moment (types_of z.heap) (activation a.method z ∷ callers)) p.history) s.after ∙ ap (λ z. reached s.fresh s.to (s.value ∷ z) p.history) k.1 in
        record {
          value = s.value;
          given = given_back w p.now.types p.history place s.value (subst (λ z. IsGiven p.now.types p.history z s.value) one s.given);
          fresh = s.fresh;
          to = s.to;
          next = s.next;
          after = subst (IsAfter p a (s.value ∷ below) s.fresh s.to callers) (sym is) (is_after p a s.fresh s.unused s.to (s.value ∷ below) callers p.history);
          history = ap (λ z. z.history) is;
        }

    store_to : (place : Place) (v : Value) → place_stored_to a.method act a.stack ≡ Some place → slice_get a.stack 0 ≡ Some v → StepsByStore w p.now.types p.history a callers q → IsStoreTo w p a callers act place v q
    store_to place v e d s =
        let same : s.act ≡ act = some_same s.act act (sym s.here ∙ at) in
        let writes = subst (λ z. Writes a.method z a.stack s.place s.value) same s.writes in
        let k = stored_place a.method act a.stack s.place s.value writes in
        let one : s.place ≡ place = some_same s.place place (sym k.0 ∙ e) in
        let it : s.value ≡ v = some_same s.value v (sym k.1 ∙ d) in
        let rest = drop (operands_of_access act) a.stack in
        let steps = s.happens.1 in
        let taken : steps.act ≡ act = some_same steps.act act (sym steps.here ∙ at) in
        let state_is = store_passed w p.now.types a s.fresh act s.place s.value steps.to s.state writes (subst (λ z. Does w (effect a.method z) (before w p.now.types a s.fresh) None steps.to s.state) taken steps.does) in
        let is : q ≡ reached s.fresh steps.to rest (store place v ∷ p.history) =
        s.result ∙ ap (λ z. heap_moment (moment (types_of z.heap) (activation a.method z ∷ callers)) (store s.place s.value ∷ p.history)) state_is
        ∙ ap (λ z. reached s.fresh steps.to rest (store z s.value ∷ p.history)) one ∙ ap (λ z. reached s.fresh steps.to rest (store place z ∷ p.history)) it in
        let empty = (store_passes w p.now.types a s.fresh act s.place s.value steps.to writes).no_targets in
        record {
          taken = subst (λ z. MayTake w p.now.types act place z) it (subst (λ z. MayTake w p.now.types act z s.value) one (taken_so w p.now.types a s.fresh act s.place s.value writes s.takes));
          fresh = s.fresh;
          to = steps.to;
          next = goes_next w p.now.types a s.fresh (effect a.method act) steps.to empty (subst (λ z. GoesTo a.method a.at (effect a.method z) steps.to) taken steps.goes);
          after = subst (IsAfter p a rest s.fresh steps.to callers) (sym is) (is_after p a s.fresh steps.unused steps.to rest callers (store place v ∷ p.history));
          history = ap (λ z. z.history) is;
        }

    waits : {A : Type 0} → OthersStore w p q → A ⊎ RaisesOrWaits w p a callers q
    waits s = inr (inr (inr (ap (λ z. z.now) s.result)))

  only_reads : (p q : HeapMoment) → GoesWithHeap w InPlay p q → (a : Activation) (callers : List Activation) → p.now.activations ≡ a ∷ callers → (act : Act) → at_offset a.method.code a.at ≡ Some act
      → (place : Place) → place_read a.method act a.stack ≡ Some place → IsReadOf p a callers act place q ⊎ RaisesOrWaits w p a callers q
  only_reads p q (inl s) a callers e act at place r = other_step p q a callers act at (read_is_access a.method act a.stack place r).0 (subst (λ z. StepsElsewhere w InPlay p.now.types z q.now) e s.0)
  only_reads p q (inr (inl s)) a callers e act at place r = go (subst (λ z. Accesses w p.now.types p.history z q) e s)
    where
      go : Accesses w p.now.types p.history (a ∷ callers) q → IsReadOf p a callers act place q ⊎ RaisesOrWaits w p a callers q
      go (inl k) = inl (read_of p q a callers act at (read_is_access a.method act a.stack place r).0 place r k)
      go (inr k) =
          let same : k.act ≡ act = some_same k.act act (sym k.here ∙ at) in
          absurd ((read_is_access a.method act a.stack place r).1 k.place k.value (subst (λ z. Writes a.method z a.stack k.place k.value) same k.writes))
  only_reads p q (inr (inr s)) a callers e act at place r = waits p q a callers act at (read_is_access a.method act a.stack place r).0 s

  only_stores : (p q : HeapMoment) → GoesWithHeap w InPlay p q → (a : Activation) (callers : List Activation) → p.now.activations ≡ a ∷ callers → (act : Act) → at_offset a.method.code a.at ≡ Some act
      → (place : Place) (v : Value) → place_stored_to a.method act a.stack ≡ Some place → slice_get a.stack 0 ≡ Some v → IsStoreTo w p a callers act place v q ⊎ RaisesOrWaits w p a callers q
  only_stores p q (inl s) a callers e act at place v r d = other_step p q a callers act at (store_is_access a.method act a.stack place r).0 (subst (λ z. StepsElsewhere w InPlay p.now.types z q.now) e s.0)
  only_stores p q (inr (inl s)) a callers e act at place v r d = go (subst (λ z. Accesses w p.now.types p.history z q) e s)
    where
      go : Accesses w p.now.types p.history (a ∷ callers) q → IsStoreTo w p a callers act place v q ⊎ RaisesOrWaits w p a callers q
      go (inl k) =
          let same : k.act ≡ act = some_same k.act act (sym k.here ∙ at) in
          absurd ((store_is_access a.method act a.stack place r).1 k.place k.below (subst (λ z. Reads a.method z a.stack k.place k.below) same k.reads))
      go (inr k) = inl (store_to p q a callers act at (store_is_access a.method act a.stack place r).0 place v r d k)
  only_stores p q (inr (inr s)) a callers e act at place v r d = waits p q a callers act at (store_is_access a.method act a.stack place r).0 s

  all : HasHeapRuns w InPlay
  all = record {
    begins = λ k i s initial.
        let q = moment (types_of s.heap) (activation k.method s ∷ []) in
        (heap_moment q [], (record { callee = k; in_play = i; state = s; initial = initial; result = refl }, refl), shows k.method s [], refl);
    class_runs = λ p q s. tie p q p.now.activations refl s;
    reads = reads;
    stores = stores;
    others = λ p place v f.
        let q = heap_moment p.now (store place v ∷ p.history) in
        (q, (λ ps run. (inr (inr record { place = place; value = v; fits = hold_fits w p.now.types place v f; result = refl }), run)), refl, refl);
    keeps = λ p q ps run. keeps p q run.0;
    holds = λ p ps run place v i. fits_hold w p.now.types place v ((held w InPlay p ps run).1 (store place v) i);
    only_reads = λ p q ps run. only_reads p q run.0;
    only_stores = λ p q ps run. only_stores p q run.0;
    is_class_run = λ p ps run. (held w InPlay p ps run).0;
  }

pub heap_run_breadth : HeapRunBreadth
heap_run_breadth w cs = all w (IsInPlay cs)

is_there : (above below : List Activation) (a : Activation) → IsAmong a (above ++ (a ∷ below))
is_there [] below a = inl refl
is_there (b ∷ bs) below a = inr (is_there bs below a)

pub each_moment_is_safe : EachMomentIsSafe
each_moment_is_safe h cs playable w x p ps run above below a e = playable w x (p ∷ ps) run p (inl refl) a (subst (IsAmong a) (sym e) (is_there above below a))
