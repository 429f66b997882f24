-- Nothing happens but what an act and its constant say.
use Rattle.std.proofs.Common.{◌≡◌, ℕ, ◌<◌, ◌^◌, ℤ, Bool, true, false, List, [], ◌∷◌, ◌++◌, length, drop, slice_get, Option, Some, None, sym, ap, refl, ◌∙◌, subst, nat_eq, eqb-true, eq-eqb}
use Rattle.names.specs.ReferenceTypes.{ReferenceType, class_type}
use Rattle.classfile.specs.Methods.{Method}
use Rattle.hierarchy.specs.World.{World}
use Rattle.insn.specs.Meanings.{Act}
use Rattle.insn.specs.Offsets.{at_offset, led_to}
use Rattle.insn.specs.OperandStacks.{beneath}
use Rattle.machine.specs.Values.{Value, null, reference}
use Rattle.machine.specs.Heap.{Status, ready, made, Object, object, Heap, with_object}
use Rattle.machine.specs.Effects as effects
use Rattle.machine.specs.Effects.{Demand, Reply, Effect, effect}
use Rattle.machine.specs.Demands.{State, MeetsRest, IsNoFault}
use Rattle.machine.specs.Steps.{Replies, IsNull, IsLive, IsLast, Does, IsBranch, go, goes_on, Happens}
use Rattle.machine.specs.ByAct.{an_address, jumps}
use Rattle.machine.specs.Breadth.{IsNotNull, Passes, with_new, IsElement, IsAnswer, IsTold, IsPushed, StayReady, IsSuccessor, HasBounds, StepBounds}
use Rattle.machine.proofs.ByType.{type_where, of_reference}
use Rattle.machine.proofs.Outlook.{Outlook, outlook, outlook_of, leaves_it, asks_in, reply_asks, seen}
use Rattle.machine.proofs.Breadth.{MayBy, WayBy, keeps_one, true_false}

-- ---- words of the machine in words of the law

not_null_where : (l : Option ℕ) (vs : List Value) → IsLive l vs → IsNotNull l vs
not_null_where None vs live = tt
not_null_where (Some i) vs live = λ e. live (subst IsNull (sym e) tt)

beneath_drops : (ns : List Demand) (vs : List Value) → beneath ns vs ≡ drop (length ns) vs
beneath_drops [] vs = refl
beneath_drops (n ∷ ns) [] = refl
beneath_drops (n ∷ ns) (v ∷ vs) = beneath_drops ns vs

asked_reply : (w : World) (s : State) (r : Reply) (n : ℕ) (answer : Option Value) (vs : List Value) → Replies w s.heap r answer vs → IsAnswer w s (reply_asks r n) answer
asked_reply w s effects.no_reply n answer vs e = e.0
asked_reply w s (effects.gives_number k) n answer vs e = e.0
asked_reply w s effects.gives_null n answer vs e = e.0
asked_reply w s (effects.gives_answer t) n answer vs e = (e.0, e.1, type_where w s.heap t e.0 e.2)

told_where : (at : ℕ) (os : List ℤ) (branch : Option ℕ) (to : ℕ) → IsBranch (led_to at os) branch to → IsTold os branch to
told_where at [] branch to b = b
told_where at (o ∷ os) branch to b = b

return_where : (t : Effect) → IsLast t → leaves_it t ≡ true
return_where (effects.leaves ns) l = refl
return_where effects.ends l = refl
return_where _ l = elim l [ ]

reference_is_not_null : (a : ℕ) → Some (reference a) ≡ Some null → ⊥
reference_is_not_null a e = cc

-- ---- objects that are ready stay so

stay_as_they_are : (h : Heap) → StayReady h h
stay_as_they_are h a x e = e

stay_with_new : (h : Heap) (a : ℕ) (o : Object) → h a ≡ None → StayReady h (with_object h a o)
stay_with_new h a o unused b x e = keeps_one h a b o (object x ready) unused e

abbrev type_in : ReferenceType → Option Object → ReferenceType
type_in other None = other
type_in other (Some o) = o.type

same_type : (x y : ReferenceType) (p q : Status) → Some (object x p) ≡ Some (object y q) → x ≡ y
same_type x y p q e = ap (type_in x) e

stay_initialized : (h : Heap) (a : ℕ) (x : ReferenceType) (p : Status) → h a ≡ Some (object x p) → StayReady h (with_object h a (object x ready))
stay_initialized h a x p here b y e = by (nat_eq a b) refl
  where
    by : (k : Bool) → nat_eq a b ≡ k → with_object h a (object x ready) b ≡ Some (object y ready)
    by true q =
        let same : a ≡ b = eqb-true a b q in
        let t : x ≡ y = same_type x y p ready (sym here ∙ subst (λ z. h z ≡ Some (object y ready)) (sym same) e) in
        rw q (ap (λ z. Some (object z ready)) t)
    by false q = rw q e

-- ---- the state after a step, as its effect is seen

record Follows (w : World) (x : Outlook) (s : State) (answer : Option Value) (to : ℕ) (u : State) : Type 0 where
  may : MayBy w x s
  answered : IsAnswer w s x.asks answer
  at : u.at ≡ to
  pushed : IsPushed x.asks answer s.stack u
  stay : StayReady s.heap u.heap
  locals : x.stores ≡ false → u.locals ≡ s.locals

module _ (w : World) (s : State) (answer : Option Value) (to : ℕ) where
  pushed_reply : (ns : List Demand) (r : Reply) (vs : List Value) (u : State) → Replies w s.heap r answer vs → u.stack ≡ vs ++ beneath ns s.stack → IsPushed (reply_asks r (length ns)) answer s.stack u
  pushed_reply ns effects.no_reply vs u e q = tt
  pushed_reply ns (effects.gives_number k) vs u e q = tt
  pushed_reply ns effects.gives_null vs u e q = tt
  pushed_reply ns (effects.gives_answer t) vs u e q =
      (e.0, e.1, q ∙ ap (λ z. z ++ beneath ns s.stack) e.3 ∙ ap (λ z. e.0 ∷ z) (beneath_drops ns s.stack))

  -- an object was made at an address that was unused
  made_new : (t : Effect) (u : State) (o : Object) (a n : ℕ) → (outlook_of t).returns ≡ false → (outlook_of t).throws ≡ false → (outlook_of t).object ≡ None → (outlook_of t).casts ≡ None → (outlook_of t).asks ≡ an_address o n → answer ≡ Some (reference a) → s.heap a ≡ None → a < 2 ^ 32 → u.at ≡ to → u.stack ≡ reference a ∷ drop n s.stack → u.heap ≡ with_object s.heap a o → u.locals ≡ s.locals → Follows w (outlook_of t) s answer to u
  made_new t u o a n returns throws object casts asked is unused in_range at stack heap locals = record {
    may = (returns, throws, subst (λ k. IsNotNull k s.stack) (sym object) tt, subst (λ k. Passes w s.heap k s.stack) (sym casts) tt);
    answered = subst (λ k. IsAnswer w s k answer) (sym asked) (record { address = a; is = is; unused = unused; in_range = in_range });
    at = at;
    pushed = subst (λ k. IsPushed k answer s.stack u) (sym asked) (a, is, stack, ap (λ h. h a) heap ∙ there a o);
    stay = subst (λ z. StayReady s.heap z) (sym heap) (stay_with_new s.heap a o unused);
    locals = λ e. locals;
  }
    where
      there : (a : ℕ) (o : Object) → with_object s.heap a o a ≡ Some o
      there a o = rw (eq-eqb a a refl) refl

  -- where it answers nothing and changes no object
  plain : (t : Effect) (u : State) (at : ℕ) → MayBy w (outlook_of t) s → IsAnswer w s (asks_in t) answer → IsPushed (asks_in t) answer s.stack u → u.at ≡ to → u.heap ≡ s.heap → ((outlook_of t).stores ≡ false → u.locals ≡ s.locals) → Follows w (outlook_of t) s answer to u
  plain t u at may an pushed q h l = record { may = may; answered = an; at = q; pushed = pushed; stay = subst (λ z. StayReady s.heap z) (sym h) (stay_as_they_are s.heap); locals = l }

  operated : (ns : List Demand) (l : Option ℕ) (r : Reply) (t : Effect) (u : State) → (outlook_of t).returns ≡ false → (outlook_of t).throws ≡ false → IsNotNull (outlook_of t).object s.stack → (outlook_of t).casts ≡ None → (outlook_of t).asks ≡ reply_asks r (length ns) → Does w (effects.operates ns l r [] true) s answer to u → Follows w (outlook_of t) s answer to u
  operated ns l r t u returns throws object casts replied d =
      let q = d.1.2 in
      let a : IsAnswer w s (outlook_of t).asks answer = subst (λ k. IsAnswer w s k answer) (sym replied) (asked_reply w s r (length ns) answer d.1.0 d.1.1) in
      let p : IsPushed (outlook_of t).asks answer s.stack u = subst (λ k. IsPushed k answer s.stack u) (sym replied) (pushed_reply ns r d.1.0 u d.1.1 (ap (λ z. z.stack) q)) in
      let may : MayBy w (outlook_of t) s = (returns, throws, object, subst (λ k. Passes w s.heap k s.stack) (sym casts) tt) in
      plain t u to may a p (ap (λ z. z.at) q) (ap (λ z. z.heap) q) (λ e. ap (λ z. z.locals) q)

  follows : (m : Method Act) (t : Effect) (u : State) → Does w t s answer to u → Follows w (outlook_of t) s answer to u
  follows m (effects.operates ns l r os b) u d = operated ns l r (effects.operates ns l r os b) u refl refl (not_null_where l s.stack d.0) refl refl d
  follows m (effects.calls_special c ns l r) u d = operated ns l r (effects.calls_special c ns l r) u refl refl (not_null_where l s.stack d.0) refl refl d
  follows m (effects.reads n i) u d =
      plain (effects.reads n i) u to (refl, refl, tt, tt) d.2 tt (ap (λ z. z.at) d.3) (ap (λ z. z.heap) d.3) (λ e. ap (λ z. z.locals) d.3)
  follows m (effects.writes n i k) u d =
      plain (effects.writes n i k) u to (refl, refl, tt, tt) d.3 tt (ap (λ z. z.at) d.4) (ap (λ z. z.heap) d.4) (λ e. absurd (true_false e))
  follows m (effects.increments i) u d =
      plain (effects.increments i) u to (refl, refl, tt, tt) d.0 tt (ap (λ z. z.at) d.1) (ap (λ z. z.heap) d.1) (λ e. ap (λ z. z.locals) d.1)
  follows m (effects.moves fs) u d =
      plain (effects.moves fs) u to (refl, refl, tt, tt) d.3 tt (ap (λ z. z.at) d.4) (ap (λ z. z.heap) d.4) (λ e. ap (λ z. z.locals) d.4)
  follows m effects.takes_element u d =
      let st : s.stack ≡ d.0 ∷ reference d.1 ∷ d.3 = d.5 in
      let array : slice_get s.stack 1 ≡ Some (reference d.1) = ap (λ z. slice_get z 1) st in
      let live : IsNotNull (Some 1) s.stack = λ e. reference_is_not_null d.1 (sym array ∙ e) in
      let element : IsElement w s answer = record { address = d.1; component = d.2; value = d.4; array = array; type = d.6; fits = type_where w s.heap d.2 d.4 d.7; is = d.8 } in
      let pushed : u.stack ≡ d.4 ∷ drop 2 s.stack = ap (λ z. z.stack) d.9 ∙ ap (λ z. d.4 ∷ z) (sym (ap (λ z. drop 2 z) st)) in
      plain effects.takes_element u to (refl, refl, live, tt) element (d.4, d.8, pushed) (ap (λ z. z.at) d.9) (ap (λ z. z.heap) d.9) (λ e. ap (λ z. z.locals) d.9)
  follows m (effects.passes r) u d =
      let p : Passes w s.heap (Some r) s.stack = subst (λ z. Passes w s.heap (Some r) z) (sym d.2) (of_reference w s.heap r d.0 d.3) in
      plain (effects.passes r) u to (refl, refl, tt, p) d.4 tt (ap (λ z. z.at) d.5) (ap (λ z. z.heap) d.5) (λ e. ap (λ z. z.locals) d.5)
  follows m (effects.creates c) u d = made_new (effects.creates c) u (object (class_type c) made) d.0 0 refl refl refl refl refl d.1 d.2 d.3 (ap (λ z. z.at) d.4) (ap (λ z. z.stack) d.4) (ap (λ z. z.heap) d.4) (ap (λ z. z.locals) d.4)
  follows m (effects.makes_array ns r) u d =
      made_new (effects.makes_array ns r) u (object r ready) d.0 (length ns) refl refl refl refl refl d.1 d.2 d.3 (ap (λ z. z.at) d.4)
      (ap (λ z. z.stack) d.4 ∙ ap (λ z. reference d.0 ∷ z) (beneath_drops ns s.stack)) (ap (λ z. z.heap) d.4) (ap (λ z. z.locals) d.4)
  follows m (effects.initializes c ns) u d = record {
    may = (refl, refl, tt, tt);
    answered = d.6;
    at = ap (λ z. z.at) d.7;
    pushed = tt;
    stay = subst (λ z. StayReady s.heap z) (sym (ap (λ z. z.heap) d.7)) (stay_initialized s.heap d.0 d.2 d.3 d.5);
    locals = λ e. ap (λ z. z.locals) d.7;
  }
  follows m (effects.leaves ns) u d = elim d [ ]
  follows m (effects.throws n) u d = elim d [ ]
  follows m effects.ends u d = elim d [ ]
  follows m effects.stuck u d = elim d [ ]

-- ---- what comes of an instruction

module _ (w : World) (m : Method Act) (s : State) (n : IsNoFault w m s) (act : Act) (here : at_offset m.code s.at ≡ Some act) (fresh : List (ℕ × ReferenceType)) where
  is_act : (other : Act) → at_offset m.code s.at ≡ Some other → other ≡ act
  is_act other e = let q : Some other ≡ Some act = sym e ∙ here in cc

  not_stuck : effect m act ≡ effects.stuck → ⊥
  not_stuck e = subst (λ t. MeetsRest w m t s) e (subst (λ a. MeetsRest w m (effect m a) s) (is_act n.act n.here) n.operands.others)

  same : outlook_of (effect m act) ≡ outlook m act
  same = seen m act not_stuck

  steps : (branch : Option ℕ) (answer : Option Value) (t : State) → Happens w m s (go branch answer fresh) (goes_on t) → IsSuccessor w m s act branch answer fresh t
  steps branch answer t h =
      let d = h.1 in
      let e = is_act d.act d.here in
      let k = follows w (with_new s fresh) answer d.to m (effect m act) t (subst (λ a. Does w (effect m a) (with_new s fresh) answer d.to t) e d.does) in
      let goes : WayBy m s.at (outlook_of (effect m act)) d.to = subst (λ a. WayBy m s.at (outlook_of (effect m a)) d.to) e d.goes in
      let told : IsTold (jumps act) branch d.to =
      told_where s.at (jumps act) branch d.to (subst (λ x. IsBranch (led_to s.at x.jumps) branch d.to) same (subst (λ a. IsBranch (led_to s.at (outlook_of (effect m a)).jumps) branch d.to) e d.branches)) in
      record {
        may = subst (λ x. MayBy w x (with_new s fresh)) same k.may;
        answered = subst (λ x. IsAnswer w (with_new s fresh) x.asks answer) same k.answered;
        way = subst (λ at. WayBy m s.at (outlook m act) at) (sym k.at) (subst (λ x. WayBy m s.at x d.to) same goes);
        told = subst (λ at. IsTold (jumps act) branch at) (sym k.at) told;
        pushed = subst (λ x. IsPushed x.asks answer s.stack t) same k.pushed;
        stay_ready = k.stay;
        locals = λ q. k.locals (ap (λ x. x.stores) same ∙ q);
      }

  bounds : HasBounds w m s act fresh
  bounds = record {
    steps = steps;
    returns = λ branch answer h.
        sym (ap (λ x. x.returns) same) ∙ return_where (effect m act) (subst (λ a. IsLast (effect m a)) (is_act h.1.act h.1.here) h.1.last);
    catches = λ a k t h. record {
      type = h.1.raised.type;
      throwable = (h.1.raised.here, h.1.raised.throwable);
      e = h.1.by_entry;
      which = h.1.which;
      covered = h.1.covered;
      caught = h.1.catches;
      at = ap (λ z. z.at) h.1.result;
      stack = ap (λ z. z.stack) h.1.result;
      locals = ap (λ z. z.locals) h.1.result;
      heap = ap (λ z. z.heap) h.1.result;
    };
    raises = λ a h. (h.1.type, (h.1.here, h.1.throwable));
  }

pub step_bounds : StepBounds
step_bounds w m s n act here fresh = bounds w m s n act here fresh
