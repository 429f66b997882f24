-- A store writes the value on top, and empties the halves that are left over.
use Rattle.std.proofs.Common.{◌≡◌, ℕ, zero, suc, ◌+◌, ◌<◌, ◌≤◌, Bool, true, false, List, [], ◌∷◌, length, slice_get, Option, Some, if◌then◌else◌, refl, sym, ap, ◌∙◌, subst, arith}
use Rattle.classfile.specs.Methods.{Method}
use Rattle.hierarchy.specs.World.{World}
use Rattle.insn.specs.declared.kinds.Kind.{Kind}
use Rattle.insn.specs.declared.kinds.Kind.TheVariants as kinds
use Rattle.insn.specs.Kinds.{kind_units}
use Rattle.insn.specs.Meanings as acts
use Rattle.insn.specs.Meanings.{Act}
use Rattle.machine.specs.Values.{Value, number, null, reference, Slot, empty, second, holds, is_wide_value, is_wide_slot, behind_lost, second_first, stored}
use Rattle.machine.specs.Heap.{Heap, IsReference, with_fresh}
use Rattle.machine.specs.Effects as effects
use Rattle.machine.specs.Effects.{Demand, effect}
use Rattle.machine.specs.Demands.{State, Meets, AllMeet, HasOperands}
use Rattle.machine.specs.Steps.{Does}
use Rattle.machine.specs.ByType.{units_of}
use Rattle.machine.specs.Stores.{stored_to, left_of_half, IsStored, StoresAreWritten}

-- ---- a store of one width

abbrev stored_by : Bool → Value → ℕ → List Slot → List Slot
stored_by wide v n [] = []
stored_by wide v zero (s ∷ ss) = holds v ∷ (if wide then second_first ss else behind_lost (is_wide_slot s) ss)
stored_by wide v (suc zero) (s ∷ ss) = (if is_wide_slot s then empty else s) ∷ stored_by wide v zero ss
stored_by wide v (suc (suc n)) (s ∷ ss) = s ∷ stored_by wide v (suc n) ss

by_width : (v : Value) (n : ℕ) (ss : List Slot) → stored v n ss ≡ stored_by (is_wide_value v) v n ss
by_width v n [] = refl
by_width v zero (s ∷ ss) = refl
by_width v (suc zero) (s ∷ ss) = ap (λ z. (if is_wide_slot s then empty else s) ∷ z) (by_width v zero ss)
by_width v (suc (suc n)) (s ∷ ss) = ap (λ z. s ∷ z) (by_width v (suc n) ss)

abbrev width : Bool → ℕ
width wide = if wide then 2 else 1

same_slot : (s t : Slot) → Some s ≡ Some t → s ≡ t
same_slot s t e = cc

value_left : (v : Value) (h : Slot) → (if is_wide_value v then empty else h) ≡ left_of_half (holds v) h
value_left (number kinds.Int) h = refl
value_left (number kinds.Float) h = refl
value_left (number kinds.Long) h = refl
value_left (number kinds.Double) h = refl
value_left null h = refl
value_left (reference a) h = refl

half_left : (s h : Slot) → (if is_wide_slot s then empty else h) ≡ left_of_half s h
half_left empty h = refl
half_left second h = refl
half_left (holds v) h = value_left v h

lost_first : (b : Bool) (s : Slot) (ss : List Slot) → slice_get (behind_lost b (s ∷ ss)) 0 ≡ Some (if b then empty else s)
lost_first true s ss = refl
lost_first false s ss = refl

lost_others : (b : Bool) (ss : List Slot) (i : ℕ) → slice_get (behind_lost b ss) (suc i) ≡ slice_get ss (suc i)
lost_others true [] i = refl
lost_others true (s ∷ ss) i = refl
lost_others false ss i = refl

module _ (v : Value) where
  put : (wide : Bool) (n : ℕ) (ss : List Slot) → n < length ss → slice_get (stored_by wide v n ss) n ≡ Some (holds v)
  put wide n [] lt = absurd (omega (arith, lt))
  put wide zero (s ∷ ss) lt = refl
  put wide (suc zero) (s ∷ ss) lt = put wide zero ss (omega (arith, lt))
  put wide (suc (suc n)) (s ∷ ss) lt = put wide (suc n) ss (omega (arith, lt))

  put_half : (n : ℕ) (ss : List Slot) → suc n < length ss → slice_get (stored_by true v n ss) (suc n) ≡ Some second
  put_half n [] lt = absurd (omega (arith, lt))
  put_half zero (s ∷ []) lt = absurd (omega (arith, lt))
  put_half zero (s ∷ t ∷ ss) lt = refl
  put_half (suc zero) (s ∷ ss) lt = put_half zero ss (omega (arith, lt))
  put_half (suc (suc n)) (s ∷ ss) lt = put_half (suc n) ss (omega (arith, lt))

  first : (wide : Bool) (n : ℕ) (ss : List Slot) (i : ℕ) (x : Slot) → suc i ≡ n → slice_get ss i ≡ Some x → slice_get (stored_by wide v n ss) i ≡ Some (left_of_half x x)
  first wide n [] i x e k = cc
  first wide zero (s ∷ ss) i x e k = absurd (omega (arith, e))
  first wide (suc zero) (s ∷ ss) zero x e k = ap Some (half_left s s) ∙ ap (λ z. Some (left_of_half z z)) (same_slot s x k)
  first wide (suc zero) (s ∷ ss) (suc i) x e k = absurd (omega (arith, e))
  first wide (suc (suc n)) (s ∷ ss) zero x e k = absurd (omega (arith, e))
  first wide (suc (suc n)) (s ∷ ss) (suc i) x e k = first wide (suc n) ss i x (omega (arith, e)) k

  after_one : (ss : List Slot) (x y : Slot) → slice_get ss 0 ≡ Some x → slice_get ss 1 ≡ Some y → slice_get (stored_by false v 0 ss) 1 ≡ Some (left_of_half x y)
  after_one [] x y e k = cc
  after_one (s ∷ []) x y e k = cc
  after_one (s ∷ t ∷ ss) x y e k =
      lost_first (is_wide_slot s) t ss ∙ ap Some (half_left s t) ∙ ap (λ z. Some (left_of_half z t)) (same_slot s x e) ∙ ap (λ z. Some (left_of_half x z)) (same_slot t y k)

  after_two : (ss : List Slot) (x y : Slot) → slice_get ss 1 ≡ Some x → slice_get ss 2 ≡ Some y → slice_get (stored_by true v 0 ss) 2 ≡ Some (left_of_half x y)
  after_two [] x y e k = cc
  after_two (s ∷ []) x y e k = cc
  after_two (s ∷ t ∷ []) x y e k = cc
  after_two (s ∷ t ∷ u ∷ ss) x y e k =
      lost_first (is_wide_slot t) u ss ∙ ap Some (half_left t u) ∙ ap (λ z. Some (left_of_half z u)) (same_slot t x e) ∙ ap (λ z. Some (left_of_half x z)) (same_slot u y k)

  last : (wide : Bool) (n : ℕ) (ss : List Slot) (i : ℕ) (x y : Slot) → suc i ≡ n + width wide → slice_get ss i ≡ Some x → slice_get ss (suc i) ≡ Some y → slice_get (stored_by wide v n ss) (suc i) ≡ Some (left_of_half x y)
  last wide n [] i x y e k l = cc
  last false zero (s ∷ ss) zero x y e k l = after_one (s ∷ ss) x y k l
  last false zero (s ∷ ss) (suc i) x y e k l = absurd (omega (arith, e))
  last true zero (s ∷ ss) zero x y e k l = absurd (omega (arith, e))
  last true zero (s ∷ ss) (suc zero) x y e k l = after_two (s ∷ ss) x y k l
  last true zero (s ∷ ss) (suc (suc i)) x y e k l = absurd (omega (arith, e))
  last wide (suc n) (s ∷ ss) zero x y e k l = absurd (at_start wide e)
    where
      at_start : (b : Bool) → suc 0 ≡ suc n + width b → ⊥
      at_start true q = omega (arith, q)
      at_start false q = omega (arith, q)
  last wide (suc zero) (s ∷ ss) (suc i) x y e k l = last wide zero ss i x y (omega (arith, e)) k l
  last wide (suc (suc n)) (s ∷ ss) (suc i) x y e k l = last wide (suc n) ss i x y (omega (arith, e)) k l

  below : (wide : Bool) (n : ℕ) (ss : List Slot) (i : ℕ) (x : Slot) → suc i < n → slice_get ss i ≡ Some x → slice_get (stored_by wide v n ss) i ≡ Some x
  below wide n [] i x lt k = cc
  below wide zero (s ∷ ss) i x lt k = absurd (omega (arith, lt))
  below wide (suc zero) (s ∷ ss) i x lt k = absurd (omega (arith, lt))
  below wide (suc (suc n)) (s ∷ ss) zero x lt k = k
  below wide (suc (suc n)) (s ∷ ss) (suc i) x lt k = below wide (suc n) ss i x (omega (arith, lt)) k

  above : (wide : Bool) (n : ℕ) (ss : List Slot) (i : ℕ) (x : Slot) → n + width wide < i → slice_get ss i ≡ Some x → slice_get (stored_by wide v n ss) i ≡ Some x
  above wide n [] i x lt k = cc
  above wide n (s ∷ ss) zero x lt k = absurd (omega (arith, lt))
  above false zero (s ∷ ss) (suc zero) x lt k = absurd (omega (arith, lt))
  above false zero (s ∷ ss) (suc (suc i)) x lt k = lost_others (is_wide_slot s) ss i ∙ k
  above true zero (s ∷ ss) (suc zero) x lt k = absurd (omega (arith, lt))
  above true zero (s ∷ []) (suc (suc i)) x lt k = cc
  above true zero (s ∷ t ∷ ss) (suc (suc zero)) x lt k = absurd (omega (arith, lt))
  above true zero (s ∷ t ∷ ss) (suc (suc (suc i))) x lt k = lost_others (is_wide_slot t) ss i ∙ k
  above wide (suc zero) (s ∷ ss) (suc i) x lt k = above wide zero ss i x (omega (arith, lt)) k
  above wide (suc (suc n)) (s ∷ ss) (suc i) x lt k = above wide (suc n) ss i x (omega (arith, lt)) k

  units_wide : (b : Bool) → is_wide_value v ≡ b → units_of v ≡ width b
  units_wide b e = of_value v b e
    where
      of_value : (u : Value) (b : Bool) → is_wide_value u ≡ b → units_of u ≡ width b
      of_value (number kinds.Int) b e = ap width e
      of_value (number kinds.Float) b e = ap width e
      of_value (number kinds.Long) b e = ap width e
      of_value (number kinds.Double) b e = ap width e
      of_value null b e = ap width e
      of_value (reference a) b e = ap width e

  is_stored : (b : Bool) (n : ℕ) (ss : List Slot) → is_wide_value v ≡ b → n + units_of v ≤ length ss → IsStored v n ss (stored_by b v n ss)
  is_stored b n ss e le =
      let u : units_of v ≡ width b = units_wide b e in
      record {
        here = put b n ss (within b u);
        half = half b u;
        first = λ i x q k. first b n ss i x q k;
        last = λ i x y q k l. last b n ss i x y (omega (arith, q, u)) k l;
        below = λ i x lt k. below b n ss i x lt k;
        above = λ i x lt k. above b n ss i x (omega (arith, lt, u)) k;
      }
    where
      within : (b : Bool) → units_of v ≡ width b → n < length ss
      within true u = omega (arith, le, u)
      within false u = omega (arith, le, u)

      half : (b : Bool) → units_of v ≡ width b → units_of v ≡ 2 → slice_get (stored_by b v n ss) (suc n) ≡ Some second
      half true u q = put_half n ss (omega (arith, le, u))
      half false u q = absurd (omega (arith, q, u))

-- ---- by act

number_units : (k : Kind) (v : Value) → v ≡ number k → units_of v ≡ kind_units k
number_units k v e = ap units_of e ∙ of_kind k
  where
    of_kind : (k : Kind) → units_of (number k) ≡ kind_units k
    of_kind kinds.Int = refl
    of_kind kinds.Float = refl
    of_kind kinds.Long = refl
    of_kind kinds.Double = refl

reference_units : (v : Value) → IsReference v → units_of v ≡ 1
reference_units (number k) e = elim e [ ]
reference_units null e = refl
reference_units (reference a) e = refl

top_meets : (w : World) (h : Heap) (d : Demand) (vs rest : List Value) (v : Value) → vs ≡ v ∷ rest → AllMeet w h (d ∷ []) vs → Meets w h d v
top_meets w h d vs rest v e k = (subst (AllMeet w h (d ∷ [])) e k).0

some_same : {A : Type 0} (a b : A) → Some a ≡ Some b → a ≡ b
some_same a b e = cc

module _ (w : World) (m : Method Act) (s : State) (heap : Heap) (answer : Option Value) (to : ℕ) (t : State) where
  abbrev before : State
  before = record { at = s.at; stack = s.stack; locals = s.locals; heap = heap }

  abbrev Stored : ℕ → Type 0
  Stored n = (v : Value) × (slice_get s.stack 0 ≡ Some v) × IsStored v n s.locals t.locals

  written : (d : Demand) (n k : ℕ) → ((v : Value) → Meets w s.heap d v → units_of v ≡ k) → AllMeet w s.heap (d ∷ []) s.stack → n + k ≤ m.max_locals → length s.locals ≡ m.max_locals
      → Does w (effects.writes d n k) before answer to t → Stored n
  written d n k units meets le long does =
      let v = does.0 in
      let u : units_of v ≡ k = units v (top_meets w s.heap d s.stack does.1 v does.2 meets) in
      let same : t.locals ≡ stored_by (is_wide_value v) v n s.locals = ap (λ z. z.locals) does.4 ∙ by_width v n s.locals in
      (v, ap (λ z. slice_get z 0) does.2, subst (IsStored v n s.locals) (sym same) (is_stored v (is_wide_value v) n s.locals refl (omega (arith, le, long, u))))

  by_act : (act : Act) (n : ℕ) → stored_to act ≡ Some n → HasOperands w m s act → Does w (effect m act) before answer to t → Stored n
  by_act (acts.Store kind k) n e o d = subst Stored (some_same k n e) (written (effects.of_kind kind) k (kind_units kind) (λ v q. number_units kind v q) o.operands o.others o.all_locals d)
  by_act (acts.StoreReference k) n e o d = subst Stored (some_same k n e) (written effects.some_reference k 1 reference_units o.operands o.others o.all_locals d)
  by_act _ n e o d = cc

pub stores_are_written : StoresAreWritten
stores_are_written w m s act here branch answer fresh t h n e =
    let steps = h.1 in
    let same : steps.act ≡ act = some_same steps.act act (sym steps.here ∙ here) in
    let also : h.0.act ≡ act = some_same h.0.act act (sym h.0.here ∙ here) in
    let heap = with_fresh s.heap fresh in
    by_act w m s heap answer steps.to t act n e (subst (HasOperands w m s) also h.0.operands) (subst (λ a. Does w (effect m a) (before w m s heap answer steps.to t) answer steps.to t) same steps.does)
