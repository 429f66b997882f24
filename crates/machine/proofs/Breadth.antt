-- The machine's choices, and worlds.
use Rattle.std.proofs.Common.{◌≡◌, ◌≢◌, ℕ, ℤ, pos, ◌+ℤ◌, Bool, true, false, List, [], ◌∷◌, length, slice_get, Option, Some, None, if◌then◌else◌, ◌⊎◌, inl, inr, sym, ap, refl, ◌∙◌, subst, ne_eqb, option_map}
use Rattle.std.specs.Str.{bytes_eq}
use Rattle.std.proofs.lemmas.Slice.Eq.{bytes_eq-Decides}
use Rattle.names.specs.ReferenceTypes.{ReferenceType, class_type, array_type}
use Rattle.classfile.specs.Methods.{Method}
use Rattle.names.specs.StandardNames.{object_name, cloneable_name, serializable_name}
use Rattle.hierarchy.specs.World.{Entry, World}
use Rattle.hierarchy.specs.Class.{ClassFact, entry_of, world_of}
use Rattle.hierarchy.specs.Extends.{Extends}
use Rattle.hierarchy.proofs.Worlds.{itself}
use Rattle.insn.specs.Meanings.{Act}
use Rattle.insn.specs.Offsets.{at_offset, next_offset, IsAmong, led_to}
use Rattle.names.specs.Descriptors.{FieldDescriptor, primitive, class as class_descriptor, array as array_descriptor}
use Rattle.machine.specs.Values.{Value, number, null, reference}
use Rattle.machine.specs.Heap.{Status, ready, made, this, Object, object, Heap, with_object, IsBelow, FitsReference, IsFresh, with_fresh}
use Rattle.machine.specs.Effects as effects
use Rattle.machine.specs.Effects.{Demand, Reply, Effect, effect, targets, demands_of}
use Rattle.machine.specs.Demands.{State, AllMeet, IsMade, IsOwn, MeetsRest, IsNoFault}
use Rattle.machine.specs.Steps.{Replies, IsNull, moved_with, IsLive, IsLast, Does, IsBranch}
use Rattle.machine.specs.ByType.{kind_of, IsOf}
use Rattle.machine.specs.ByAct.{jumps, asks}
use Rattle.machine.specs.Breadth.{AreNew, IsNotNull, Passes, with_new, MayGoOn, IsElement, IsAnswer, MakesNone, IsWay, IsTold, HasStep, HasChoices, StepBreadth, with_class, interface_entry, class_entry, HasMore, WorldBreadth}
use Rattle.machine.proofs.ByType.{fits_where, reference_where}
use Rattle.machine.proofs.Flows.{Flows, flows}
use Rattle.machine.proofs.Outlook.{Outlook, outlook, outlook_of, leaves_it, asks_in, reply_asks, seen}

-- ---- fresh objects leave the others

pub keeps_one : (h : Heap) (a b : ℕ) (o x : Object) → h a ≡ None → h b ≡ Some x → with_object h a o b ≡ Some x
keeps_one h a b o x n e = rw (ne_eqb a b apart) e
  where
    apart : a ≡ b → ⊥
    apart q = let k : None ≡ Some x = sym n ∙ subst (λ z. h z ≡ Some x) (sym q) e in cc

keeps : (xs : List (ℕ × ReferenceType)) (h : Heap) (b : ℕ) (x : Object) → IsFresh h xs → h b ≡ Some x → with_fresh h xs b ≡ Some x
keeps [] h b x f e = e
keeps (y ∷ ys) h b x f e = keeps ys (with_object h y.0 (object y.1 ready)) b x f.3 (keeps_one h y.0 b (object y.1 ready) x f.0 e)

-- ---- what is allowed, in the words of the relations

new_behind : (h : Heap) (a : ℕ) (o : Object) (xs : List (ℕ × ReferenceType)) → ((y : ℕ × ReferenceType) → IsAmong y xs → y.0 ≢ a) → AreNew h xs
    → AreNew (with_object h a o) xs
new_behind h a o [] apart u = tt
new_behind h a o (x ∷ xs) apart u =
    (rw (ne_eqb a x.0 (λ q. apart x (inl refl) (sym q))) u.0, u.1, u.2, u.3, new_behind h a o xs (λ y i. apart y (inr i)) u.4)

fresh_where : (h : Heap) (xs : List (ℕ × ReferenceType)) → AreNew h xs → IsFresh h xs
fresh_where h [] u = tt
fresh_where h (x ∷ xs) u =
    let made_one : Object = object x.1 ready in
    (u.0, u.1, u.2, fresh_where (with_object h x.0 made_one) xs (new_behind h x.0 made_one xs u.3 u.4))

null_where : (o : Option Value) → IsNull o → o ≡ Some null
null_where (Some null) n = refl
null_where (Some (number k)) n = elim n [ ]
null_where (Some (reference a)) n = elim n [ ]
null_where None n = elim n [ ]

live_where : (l : Option ℕ) (vs : List Value) → IsNotNull l vs → IsLive l vs
live_where None vs n = tt
live_where (Some i) vs n = λ k. n (null_where (slice_get vs i) k)

last_where : (t : Effect) → leaves_it t ≡ true → IsLast t
last_where (effects.leaves ns) r = tt
last_where effects.ends r = tt
last_where _ r = cc

-- ---- what an instruction does

-- what is asked of the choices, and of the answer, as an effect is seen
abbrev pub MayBy : World → Outlook → State → Type 0
MayBy w x s = (x.returns ≡ false) × (x.throws ≡ false) × IsNotNull x.object s.stack × Passes w s.heap x.casts s.stack

abbrev pub WayBy : Method Act → ℕ → Outlook → ℕ → Type 0
WayBy m from x to = IsAmong (pos to) (led_to from x.jumps) ⊎ ((x.follows ≡ true) × (next_offset m.code from ≡ Some to))

pub true_false : true ≡ false → ⊥
true_false e = cc

replies : (w : World) (s : State) (r : Reply) (n : ℕ) (answer : Option Value) → IsAnswer w s (reply_asks r n) answer → (vs : List Value) × Replies w s.heap r answer vs
replies w s effects.no_reply n answer e = ([], (e, refl))
replies w s (effects.gives_number k) n answer e = (number k ∷ [], (e, refl))
replies w s effects.gives_null n answer e = (null ∷ [], (e, refl))
replies w s (effects.gives_answer t) n answer e = (e.0 ∷ [], (e.0, e.1, fits_where w s.heap t e.0 e.2, refl))

passed : (w : World) (h : Heap) (t : ReferenceType) (vs : List Value) → Passes w h (Some t) vs → (v : Value) × (rest : List Value) × (vs ≡ v ∷ rest) × FitsReference w h t v
passed w h t [] f = elim f [ ]
passed w h t (v ∷ vs) f = (v, vs, refl, reference_where w h t v f)

first_one : (w : World) (h : Heap) (n : Demand) (vs : List Value) → AllMeet w h (n ∷ []) vs → (v : Value) × (rest : List Value) × (vs ≡ v ∷ rest)
first_one w h n (v ∷ vs) f = (v, vs, refl)
first_one w h n [] f = elim f [ ]

second_one : (vs : List Value) (a : ℕ) → slice_get vs 1 ≡ Some (reference a) → (i : Value) × (rest : List Value) × (vs ≡ i ∷ reference a ∷ rest)
second_one [] a e = cc
second_one (i ∷ []) a e = cc
second_one (i ∷ (v ∷ vs)) a e = let q : v ≡ reference a = cc in (i, vs, ap (λ z. i ∷ z ∷ vs) q)

made_there : (m : Method Act) (h : Heap) (c : List ℕ) (a : ℕ) → IsMade h c a ⊎ IsOwn m h c a → (x : ReferenceType) × (st : Status) × (h a ≡ Some (object x st))
made_there m h c a (inl i) = (class_type c, made, i.here)
made_there m h c a (inr i) = (i.type, this, i.here)

module _ (w : World) (m : Method Act) (s : State) (fresh : List (ℕ × ReferenceType)) (f : IsFresh s.heap fresh) where
  does : (t : Effect) (answer : Option Value) (to : ℕ) → AllMeet w s.heap (demands_of t) s.stack → MeetsRest w m t s → MayBy w (outlook_of t) (with_new s fresh) → IsAnswer w (with_new s fresh) (asks_in t) answer → (u : State) × Does w t (with_new s fresh) answer to u
  does (effects.operates ns l r os b) answer to am mr go_on an = let k = replies w (with_new s fresh) r (length ns) answer an in (_, (live_where l s.stack go_on.2, (k.0, k.1, refl)))
  does (effects.calls_special c ns l r) answer to am mr go_on an = let k = replies w (with_new s fresh) r (length ns) answer an in (_, (live_where l s.stack go_on.2, (k.0, k.1, refl)))
  does (effects.reads n i) answer to am mr go_on an = (_, (mr.value, mr.here, an, refl))
  does (effects.writes n i k) answer to am mr go_on an = let q = first_one w s.heap n s.stack am in (_, (q.0, q.1, q.2, an, refl))
  does (effects.increments i) answer to am mr go_on an = (_, (an, refl))
  does (effects.moves fs) answer to am mr go_on an = (_, (mr.form, mr.among, mr.fits, an, refl))
  does effects.takes_element answer to am mr go_on an =
      let q = second_one s.stack an.address an.array in
      (_, (q.0, an.address, an.component, q.1, an.value, q.2, an.type, fits_where w (with_fresh s.heap fresh) an.component an.value an.fits, an.is, refl))
  does (effects.passes r) answer to am mr go_on an =
      let q = passed w (with_fresh s.heap fresh) r s.stack go_on.3 in
      (_, (q.0, q.1, q.2, q.3, an, refl))
  does (effects.creates c) answer to am mr go_on an = (_, (an.address, an.is, an.unused, an.in_range, refl))
  does (effects.makes_array ns r) answer to am mr go_on an = (_, (an.address, an.is, an.unused, an.in_range, refl))
  does (effects.initializes c ns) answer to am mr go_on an =
      let i = made_there m s.heap c mr.address mr.uninitialized in
      (_, (mr.address, mr.rest, i.0, i.1, mr.here, keeps fresh s.heap mr.address (object i.0 i.1) f i.2, an, refl))
  does (effects.leaves ns) answer to am mr go_on an = absurd (true_false go_on.0)
  does (effects.throws n) answer to am mr go_on an = absurd (true_false go_on.1)
  does effects.ends answer to am mr go_on an = absurd (true_false go_on.0)
  does effects.stuck answer to am mr go_on an = elim mr [ ]

  -- ---- something to answer

  field_value : (t : FieldDescriptor) → (v : Value) × IsOf w (with_fresh s.heap fresh) t v
  field_value (primitive p) = (number (kind_of p), (p, refl, refl))
  field_value (class_descriptor n) = (null, tt)
  field_value (array_descriptor c) = (null, tt)

  reply : (r : Reply) (n : ℕ) → (answer : Option Value) × IsAnswer w (with_new s fresh) (reply_asks r n) answer
  reply effects.no_reply n = (None, refl)
  reply (effects.gives_number k) n = (None, refl)
  reply effects.gives_null n = (None, refl)
  reply (effects.gives_answer t) n = let v = field_value t in (Some v.0, (v.0, refl, v.1))

  element_at : (vs : List Value) → vs ≡ s.stack → AllMeet w s.heap (demands_of effects.takes_element) vs → IsNotNull (Some 1) vs → (answer : Option Value) × IsElement w (with_new s fresh) answer
  element_at [] e am live = elim am [ ]
  element_at (i ∷ []) e am live = elim am.1 [ ]
  element_at (i ∷ (number k ∷ vs)) e am live = elim am.1.0 [ ]
  element_at (i ∷ (null ∷ vs)) e am live = absurd (live refl)
  element_at (i ∷ (reference a ∷ vs)) e am live = by am.1.0.0 am.1.0.1 am.1.0.2
    where
      by : (x : ReferenceType) → s.heap a ≡ Some (object x ready) → IsBelow w x effects.objects → (answer : Option Value) × IsElement w (with_new s fresh) answer
      by (class_type n) at b = elim b [ ]
      by (array_type c) at b = let v = field_value c in (
        Some v.0,
        record {
          address = a;
          component = c;
          value = v.0;
          array = ap (λ z. slice_get z 1) (sym e);
          type = keeps fresh s.heap a (object (array_type c) ready) f at;
          fits = v.1;
          is = refl;
        },
      )

  answered : (t : Effect) → AllMeet w s.heap (demands_of t) s.stack → MayBy w (outlook_of t) (with_new s fresh) → MakesNone (asks_in t) → (answer : Option Value) × IsAnswer w (with_new s fresh) (asks_in t) answer
  answered (effects.operates ns l r os b) am go_on none = reply r (length ns)
  answered (effects.calls_special c ns l r) am go_on none = reply r (length ns)
  answered (effects.reads n i) am go_on none = (None, refl)
  answered (effects.writes n i k) am go_on none = (None, refl)
  answered (effects.increments i) am go_on none = (None, refl)
  answered (effects.moves fs) am go_on none = (None, refl)
  answered effects.takes_element am go_on none = element_at s.stack refl am go_on.2
  answered (effects.passes r) am go_on none = (None, refl)
  answered (effects.creates c) am go_on none = elim none [ ]
  answered (effects.makes_array ns r) am go_on none = elim none [ ]
  answered (effects.initializes c ns) am go_on none = (None, refl)
  answered (effects.leaves ns) am go_on none = (None, refl)
  answered (effects.throws x) am go_on none = (None, refl)
  answered effects.ends am go_on none = (None, refl)
  answered effects.stuck am go_on none = (None, refl)

  told_to : (os : List ℤ) (to : ℕ) → (branch : Option ℕ) × IsTold os branch to × IsBranch (led_to s.at os) branch to
  told_to [] to = (None, refl, refl)
  told_to (o ∷ os) to = (Some to, refl, refl)

  module _ (n : IsNoFault w m s) (act : Act) (here : at_offset m.code s.at ≡ Some act) where
    same_act : n.act ≡ act
    same_act = let q : Some n.act ≡ Some act = sym n.here ∙ here in cc

    not_stuck : effect m act ≡ effects.stuck → ⊥
    not_stuck e = subst (λ t. MeetsRest w m t s) e (subst (λ a. MeetsRest w m (effect m a) s) same_act n.operands.others)

    same : outlook_of (effect m act) ≡ outlook m act
    same = seen m act not_stuck

    may_by : MayGoOn w m act (with_new s fresh) → MayBy w (outlook_of (effect m act)) (with_new s fresh)
    may_by go_on = subst (λ x. MayBy w x (with_new s fresh)) (sym same) go_on

    all_meet : AllMeet w s.heap (demands_of (effect m act)) s.stack
    all_meet = subst (λ a. AllMeet w s.heap (demands_of (effect m a)) s.stack) same_act n.operands.operands

    step : MayGoOn w m act (with_new s fresh) → (answer : Option Value) → IsAnswer w (with_new s fresh) (asks m act) answer → (to : ℕ) → IsWay m s.at act to → HasStep w m s act fresh answer to
    step go_on answer an to goes =
        let mr = subst (λ a. MeetsRest w m (effect m a) s) same_act n.operands.others in
        let d = does (effect m act) answer to all_meet mr (may_by go_on) (subst (λ x. IsAnswer w (with_new s fresh) x.asks answer) (sym same) an) in
        let b = told_to (jumps act) to in
        record {
          branch = b.0;
          told = b.1;
          state = d.0;
          happens = (
            n,
            record {
              act = act;
              here = here;
              unused = f;
              to = to;
              branches = subst (λ x. IsBranch (led_to s.at x.jumps) b.0 to) (sym same) b.2;
              goes = subst (λ x. WayBy m s.at x to) (sym same) goes;
              does = d.1;
            },
          );
        }

    -- ---- somewhere to go

    on : effects.falls (effect m act) ≡ true → (to : ℕ) × WayBy m s.at (outlook_of (effect m act)) to
    on e = let k = n.control.next (subst (λ a. effects.falls (effect m a) ≡ true) (sym same_act) e) in (k.0, inr (e, k.1))

    along : (z : ℤ) (zs : List ℤ) → effects.offsets_of (effect m act) ≡ z ∷ zs → (to : ℕ) × WayBy m s.at (outlook_of (effect m act)) to
    along z zs e =
        let t : ℤ = pos s.at +ℤ z in
        let i : IsAmong t (targets s.at (effect m act)) = subst (λ os. IsAmong t (led_to s.at os)) (sym e) (inl refl) in
        let k = n.control.branches t (subst (λ a. IsAmong t (targets s.at (effect m a))) (sym same_act) i) in
        (k.0, inl (subst (λ u. IsAmong u (targets s.at (effect m act))) k.1 i))

    ways : (t : Effect) → Flows t → MayBy w (outlook_of t) (with_new s fresh) → (t ≡ effects.stuck → ⊥) → (effects.falls t ≡ true) ⊎ ((z : ℤ) × (zs : List ℤ) × (effects.offsets_of t ≡ z ∷ zs))
    ways (effects.operates ns l r os b) f go_on e = f
    ways (effects.calls_special c ns l r) f go_on e = inl refl
    ways (effects.reads n i) f go_on e = inl refl
    ways (effects.writes n i k) f go_on e = inl refl
    ways (effects.increments i) f go_on e = inl refl
    ways (effects.moves fs) f go_on e = inl refl
    ways effects.takes_element f go_on e = inl refl
    ways (effects.passes r) f go_on e = inl refl
    ways (effects.creates c) f go_on e = inl refl
    ways (effects.makes_array ns r) f go_on e = inl refl
    ways (effects.initializes c ns) f go_on e = inl refl
    ways (effects.leaves ns) f go_on e = absurd (true_false go_on.0)
    ways (effects.throws x) f go_on e = absurd (true_false go_on.1)
    ways effects.ends f go_on e = absurd (true_false go_on.0)
    ways effects.stuck f go_on e = absurd (e refl)

    somewhere : MayGoOn w m act (with_new s fresh) → (to : ℕ) × IsWay m s.at act to
    somewhere go_on =
        let k = by (ways (effect m act) (flows m act) (may_by go_on) not_stuck) in
        (k.0, subst (λ x. WayBy m s.at x k.0) same k.1)
      where
        by : (effects.falls (effect m act) ≡ true) ⊎ ((z : ℤ) × (zs : List ℤ) × (effects.offsets_of (effect m act) ≡ z ∷ zs)) → (to : ℕ) × WayBy m s.at (outlook_of (effect m act)) to
        by (inl e) = on e
        by (inr e) = along e.0 e.1 e.2

    something : MayGoOn w m act (with_new s fresh) → MakesNone (asks m act) → (answer : Option Value) × IsAnswer w (with_new s fresh) (asks m act) answer
    something go_on none =
        let k = answered (effect m act) all_meet (may_by go_on) (subst (λ x. MakesNone x.asks) (sym same) none) in
        (k.0, subst (λ x. IsAnswer w (with_new s fresh) x.asks k.0) same k.1)

    choices : HasChoices w m s act fresh
    choices = record {
      steps = step;
      somewhere = somewhere;
      answered = something;
      returns = λ l. (
        n,
        record {
          act = act;
          here = here;
          unused = f;
          no_branch = refl;
          no_answer = refl;
          last = last_where (effect m act) (subst (λ x. x.returns ≡ true) (sym same) l);
        },
      );
      raises = λ a x at b. (
        (n, record { unused = f; type = x; here = at; throwable = b }),
        λ k e which covered catches. (
          moved_with s e.handler (reference a ∷ []) (with_fresh s.heap fresh),
          (n, record { raised = record { unused = f; type = x; here = at; throwable = b }; by_entry = e; which = which; covered = covered; catches = catches; result = refl }),
        ),
      );
    }

pub step_breadth : StepBreadth
step_breadth w m s n act here fresh f = choices w m s fresh (fresh_where s.heap fresh f) n act here

-- ---- worlds

some_same : (a b : Entry) → Some a ≡ Some b → a ≡ b
some_same a b e = cc

module _ (classes : List ClassFact) (world : World) (old : Extends world classes) (name : List ℕ) (absent : world name ≡ None) where
  not_there : (e : Entry) → world name ≡ Some e → ⊥
  not_there e k = let r : None ≡ Some e = sym absent ∙ k in cc

  keeps_classes : (new : Entry) (n : List ℕ) (e : Entry) → world_of classes n ≡ Some e → with_class world name new n ≡ Some e
  keeps_classes new n e k = by (bytes_eq n name) refl
    where
      by : (b : Bool) → bytes_eq n name ≡ b → (if b then Some new else world n) ≡ Some e
      by true q = absurd (not_there e (subst (λ z. world z ≡ Some e) ((bytes_eq-Decides n name).0 q) (old.keeps n e k)))
      by false q = old.keeps n e k

  -- what holds of the new class and of the others holds of all
  each : (new : Entry) (n : List ℕ) (P : Entry → Type 0) → (n ≡ name → P new) → ((e : Entry) → world n ≡ Some e → P e) → (e : Entry) → with_class world name new n ≡ Some e → P e
  each new n P p q e k = by (bytes_eq n name) refl k
    where
      by : (b : Bool) → bytes_eq n name ≡ b → (if b then Some new else world n) ≡ Some e → P e
      by true i j = subst P (some_same new e j) (p ((bytes_eq-Decides n name).0 i))
      by false i j = q e j

  with_interface : Extends (with_class world name interface_entry) classes
  with_interface = record {
    keeps = keeps_classes interface_entry;
    interface_super = λ n e k i. each interface_entry n (λ x. x.interface ≡ true → x.superclass ≡ Some object_name) (λ q j. refl) (λ x l j. old.interface_super n x l j) e k i;
    cloneable = λ e k. each interface_entry cloneable_name (λ x. x.interface ≡ true) (λ q. refl) old.cloneable e k;
    serializable = λ e k. each interface_entry serializable_name (λ x. x.interface ≡ true) (λ q. refl) old.serializable e k;
  }

  with_more : name ≢ cloneable_name → name ≢ serializable_name → (superclass : Option (List ℕ)) → Extends (with_class world name (class_entry superclass)) classes
  with_more c d superclass = record {
    keeps = keeps_classes (class_entry superclass);
    interface_super = λ n e k i. each (class_entry superclass) n (λ x. x.interface ≡ true → x.superclass ≡ Some object_name) (λ q j. absurd (true_false (sym j))) (λ x l j. old.interface_super n x l j) e k i;
    cloneable = λ e k. each (class_entry superclass) cloneable_name (λ x. x.interface ≡ true) (λ q. absurd (c (sym q))) old.cloneable e k;
    serializable = λ e k. each (class_entry superclass) serializable_name (λ x. x.interface ≡ true) (λ q. absurd (d (sym q))) old.serializable e k;
  }

has_more : (classes : List ClassFact) (world : World) → Extends world classes → HasMore classes world
has_more classes world old = record {
  interfaces = λ name absent. with_interface classes world old name absent;
  more_classes = λ name absent c d superclass. with_more classes world old name absent c d superclass;
}

pub world_breadth : WorldBreadth
world_breadth classes h =
    let alone = has_more classes (world_of classes) (itself classes h) in
    record {
      itself = itself classes h;
      interfaces = λ name absent. alone.interfaces name (ap (option_map entry_of) absent);
      more_classes = λ name absent c d superclass. alone.more_classes name (ap (option_map entry_of) absent) c d superclass;
      more = has_more classes;
    }
