-- No activation of a class run is a fault.
use Rattle.std.proofs.Common.{◌≡◌, ℕ, Bool, true, false, nat_eq, List, [], ◌∷◌, Option, Some, None, inl, inr, if◌then◌else◌, sym, ap, refl, ◌∙◌, subst}
use Rattle.names.specs.Descriptors.{FieldDescriptor}
use Rattle.hierarchy.specs.World.{World}
use Rattle.hierarchy.specs.Class.{ClassFact}
use Rattle.hierarchy.specs.Rules.{IsHierarchy}
use Rattle.hierarchy.specs.Extends.{Extends}
use Rattle.insn.specs.Offsets.{IsAmong}
use Rattle.machine.specs.Values.{Value, number, null, reference}
use Rattle.machine.specs.Heap.{Status, ready, with_fresh}
use Rattle.machine.specs.Effects.{demands_of, effect}
use Rattle.machine.specs.Demands.{AllMeet, IsNoFault}
use Rattle.machine.specs.Steps.{Choice, raise}
use Rattle.verify.specs.ClassRuns.{Callee, Types, Activation, heap_in, state_in, types_of, Moment, called, IsCall, constructs, status_after, taken, resumed, IsReadyAnswer, handed_over, StepsAlone, Enters, Answered, Returns, Unwinds, Raises, Goes, Begins, IsClassRun}
use Rattle.verify.specs.ClassRunSafety.{IsInPlay, VerifiedIsPlayable}
use Rattle.verify.proofs.safety.Run.{begins, step, follows, met}
use Rattle.verify.proofs.safety.ClassCalls.{some_same, constant_in, calls_by}
use Rattle.verify.proofs.safety.ClassMoments.{Grows, Unused, Good, good_grows, good_of, fresh_grows, step_grows}
use Rattle.verify.proofs.safety.ClassReturns.{FitsAnswer, returned_fits, answer_over, steps_answer}
use Rattle.verify.proofs.safety.ClassEnters.{IsPlayed, at_call, callee_type, enters}
use Rattle.verify.proofs.safety.ClassMethods.{played}

unused_after : (types : Types) (b : Bool) (vs : List Value) (st : ℕ → Status) → Unused types st → Unused types (status_after b vs st)
unused_after types true (reference own ∷ vs) st u a e = go (nat_eq own a)
  where
    go : (d : Bool) → (if d then ready else st a) ≡ ready
    go true = refl
    go false = u a e
unused_after types true [] st u a e = u a e
unused_after types true (null ∷ vs) st u a e = u a e
unused_after types true (number k ∷ vs) st u a e = u a e
unused_after types false vs st u a e = u a e

one_constant : (a : Activation) (c d : IsCall a) → c.constant ≡ d.constant
one_constant a c d =
    let e : c.act ≡ d.act = some_same c.act d.act (sym c.here ∙ d.here) in
    ap (constant_in c.constant) (sym c.calls ∙ ap (called a.method) e ∙ d.calls)

module _ (h : List ClassFact) (w : World) (hh : IsHierarchy h) (x : Extends w h) (InPlay : Callee → Type 0) (known : (k : Callee) → InPlay k → IsPlayed h w k) where
  -- ---- the invariant

  -- each caller waits at a call whose answer is of this type
  abbrev Waiting : Types → Option FieldDescriptor → List Activation → Type 0
  Waiting types result [] = Unit {0}
  Waiting types result (a ∷ callers) = Good h w types a × ((c : IsCall a) → c.constant.type.result ≡ result) × Waiting types a.method.type.result callers

  abbrev Holds : Types → List Activation → Type 0
  Holds types [] = Unit {0}
  Holds types (a ∷ callers) = Good h w types a × Waiting types a.method.type.result callers

  abbrev HoldsAt : Moment → Type 0
  HoldsAt q = Holds q.types q.activations

  waiting_grows : (types next : Types) (result : Option FieldDescriptor) (xs : List Activation) → Grows types next → Waiting types result xs → Waiting next result xs
  waiting_grows types next result [] g k = tt
  waiting_grows types next result (a ∷ callers) g k = (good_grows h w types next a g k.0, k.1, waiting_grows types next a.method.type.result callers g k.2)

  no_fault : (types : Types) (a : Activation) → Good h w types a → IsNoFault w a.method (state_in types a)
  no_fault types a g = met h a.method g.safe w hh x g.own (state_in types a) g.inv

  -- ---- the last activation steps by itself

  alone : (types : Types) (a : Activation) (callers : List Activation) (c : Choice) (q : Moment) → Holds types (a ∷ callers) → StepsAlone w types a callers c q → HoldsAt q
  alone types a callers c q k s =
      let g = k.0 in
      let inv = follows h a.method g.safe w hh x g.own (state_in types a) s.state c g.inv s.happens in
      subst HoldsAt (sym s.result)
      (good_of h w a.method g.safe g.super g.own s.state inv, waiting_grows types (types_of s.state.heap) a.method.type.result callers (step_grows w a.method types a c s.state s.happens) k.1)

  -- ---- a call enters a method

  calls : (types : Types) (a : Activation) (callers : List Activation) (q : Moment) → Holds types (a ∷ callers) → Enters w InPlay types a callers q → HoldsAt q
  calls types a callers q k s =
      let p = known s.callee s.in_play in
      let type = callee_type h w hh x a s.call s.callee p s.descriptor in
      subst HoldsAt (sym s.result) (
        enters h w hh x types a k.0 s.call s.callee p s.no_fault s.name s.descriptor s.may,
        (k.0, (λ d. ap (λ z. z.type.result) (one_constant a d s.call) ∙ ap (λ z. z.result) (sym type)), k.1),
      )

  -- ---- an answer comes to the caller

  answered : (before types : Types) (st : ℕ → Status) (result : Option FieldDescriptor) (answer : Option Value) (callers : List Activation) (q : Moment) → Grows before types → FitsAnswer w (heap_in before st) result answer → Waiting types result callers → Answered types answer callers q → HoldsAt q
  answered before types st result answer [] q grown fits k s = subst HoldsAt (sym s) tt
  answered before types st result answer (a ∷ callers) q grown fits k s =
      let g = k.0 in
      let c = s.1.call in
      let at = at_call h w hh x types a c (no_fault types a g) in
      let by = calls_by w a.method (state_in types a) c.act c.way c.constant c.calls at.others in
      let wanted : FitsAnswer w (heap_in before st) c.constant.type.result answer = subst (λ z. FitsAnswer w (heap_in before st) z answer) (sym (k.1 c)) fits in
      let here = answer_over w before types st a.status c.constant.type.result answer grown wanted (λ v e. subst (IsReadyAnswer (heap_in types a.status)) e s.1.ready) in
      let b = constructs c.way c.constant in
      let after = resumed a b c.receiver c.below answer s.1.to in
      let moves = steps_answer w types a c.act c.way c.constant c.receiver c.arguments c.below answer s.1.to c.here s.1.next c.stack c.one c.all by at.others here in
      let inv = step h a.method g.safe w hh x g.own (state_in types a) (state_in types after) None (taken b answer) [] g.inv moves in
      let good : Good h w types after = record { safe = g.safe; super = g.super; own = g.own; inv = inv; unused = unused_after types b c.receiver a.status g.unused } in
      subst HoldsAt (sym s.2) (subst (λ z. Holds types (z ∷ callers)) (sym s.1.result) (good, k.2))

  returns : (types : Types) (a : Activation) (callers : List Activation) (q : Moment) → Holds types (a ∷ callers) → Returns w types a callers q → HoldsAt q
  returns types a callers q k s =
      let heap = heap_in types a.status in
      let act : s.no_fault.act ≡ s.ends.act = some_same s.no_fault.act s.ends.act (sym s.no_fault.here ∙ s.ends.here) in
      let meet : AllMeet w heap (demands_of (effect a.method s.ends.act)) a.stack = subst (λ z. AllMeet w heap (demands_of (effect a.method z)) a.stack) act s.no_fault.operands.operands in
      let fits = returned_fits w heap a.method s.ends.act a.stack s.ends.last meet in
      let grown = fresh_grows types a.status s.fresh s.ends.unused in
      let next = types_of (with_fresh heap s.fresh) in
      answered types next a.status a.method.type.result (handed_over (effect a.method s.ends.act) a.stack) callers q grown fits (waiting_grows types next a.method.type.result callers grown k.1) s.answered

  -- ---- what is raised comes to the callers

  unwinds : (types : Types) (address : ℕ) (result : Option FieldDescriptor) (callers : List Activation) (q : Moment) → Waiting types result callers → Unwinds w types address callers q → HoldsAt q
  unwinds types address result [] q k s = subst HoldsAt (sym s) tt
  unwinds types address result (a ∷ callers) q k (inl s) = alone types a callers (raise address [] (Some s.0)) q (k.0, k.2) s.1
  unwinds types address result (a ∷ callers) q k (inr s) = unwinds types address a.method.type.result callers q k.2 s.1

  raises : (types : Types) (a : Activation) (callers : List Activation) (q : Moment) → Holds types (a ∷ callers) → Raises w types a callers q → HoldsAt q
  raises types a callers q k s =
      let next = types_of (with_fresh (heap_in types a.status) s.fresh) in
      unwinds next s.address a.method.type.result callers q (waiting_grows types next a.method.type.result callers (fresh_grows types a.status s.fresh s.happens.1.unused) k.1) s.unwinds

  -- ---- runs

  pub goes : (types : Types) (xs : List Activation) (q : Moment) → Holds types xs → Goes w InPlay types xs q → HoldsAt q
  goes types [] q k s = elim s [ ]
  goes types (a ∷ callers) q k (inl s) = alone types a callers s.0 q k s.1
  goes types (a ∷ callers) q k (inr (inl s)) = calls types a callers q k s
  goes types (a ∷ callers) q k (inr (inr (inl s))) = returns types a callers q k s
  goes types (a ∷ callers) q k (inr (inr (inr s))) = raises types a callers q k s

  first : (q : Moment) → Begins w InPlay q → HoldsAt q
  first q s =
      let p = known s.callee s.in_play in
      subst HoldsAt (sym s.result)
      (good_of h w s.callee.method p.safe p.super s.initial.own s.state (begins h s.callee.method p.safe w hh x s.state s.initial), tt)

  pub invariant : (q : Moment) (ps : List Moment) → IsClassRun w InPlay (q ∷ ps) → HoldsAt q
  invariant q [] r = first q r
  invariant q (p ∷ ps) r = goes p.types p.activations q (invariant p ps r.1) r.0

  waiting_met : (types : Types) (result : Option FieldDescriptor) (xs : List Activation) → Waiting types result xs → (a : Activation) → IsAmong a xs → IsNoFault w a.method (state_in types a)
  waiting_met types result [] k a i = elim i [ ]
  waiting_met types result (b ∷ bs) k a (inl e) = subst (λ z. IsNoFault w z.method (state_in types z)) (sym e) (no_fault types b k.0)
  waiting_met types result (b ∷ bs) k a (inr i) = waiting_met types b.method.type.result bs k.2 a i

  holds_met : (types : Types) (xs : List Activation) → Holds types xs → (a : Activation) → IsAmong a xs → IsNoFault w a.method (state_in types a)
  holds_met types [] k a i = elim i [ ]
  holds_met types (b ∷ bs) k a (inl e) = subst (λ z. IsNoFault w z.method (state_in types z)) (sym e) (no_fault types b k.0)
  holds_met types (b ∷ bs) k a (inr i) = waiting_met types b.method.type.result bs k.1 a i

  pub all_met : (run : List Moment) → IsClassRun w InPlay run → (q : Moment) → IsAmong q run → (a : Activation) → IsAmong a q.activations → IsNoFault w a.method (state_in q.types a)
  all_met [] r q i a j = elim r [ ]
  all_met (p ∷ []) r q (inl e) a j = let s = subst HoldsAt (sym e) (invariant p [] r) in holds_met q.types q.activations s a j
  all_met (p ∷ []) r q (inr e) a j = elim e [ ]
  all_met (p ∷ (o ∷ os)) r q (inl e) a j = let s = subst HoldsAt (sym e) (invariant p (o ∷ os) r) in holds_met q.types q.activations s a j
  all_met (p ∷ (o ∷ os)) r q (inr i) a j = all_met (o ∷ os) r.1 q i a j

pub verified_is_playable : VerifiedIsPlayable
verified_is_playable h hh cs v w x run r q i a j = all_met h w hh x (IsInPlay cs) (λ k p. played h cs v w x k p) run r q i a j
