-- Loads and stores.
use Rattle.std.proofs.Common.{◌≡◌, ℕ, zero, suc, ◌+◌, ◌≤◌, Bool, true, false, List, [], ◌∷◌, length, slice_get, Option, Some, if◌then◌else◌, ◌⊎◌, inl, inr, sym, ap, refl, ◌∙◌, subst, arith, ltb-false}
use Rattle.names.specs.ReferenceTypes.{ReferenceType, class_type, array_type}
use Rattle.hierarchy.specs.World.{World}
use Rattle.hierarchy.specs.Class.{ClassFact}
use Rattle.hierarchy.specs.Answer.{Outcome, yes}
use Rattle.insn.specs.declared.kinds.Kind.TheVariants as kinds
use Rattle.frames.specs.VerificationType.{VerificationType, top, int, float, long, double, null as null_type, class, array, uninit_this, uninit}
use Rattle.frames.specs.FrameFact.{FrameFact}
use Rattle.frames.specs.Slots.{is_wide}
use Rattle.frames.specs.Conditions.{NoneHolds, is_no, missing_if}
use Rattle.rules.specs.TypingRules as rules
use Rattle.rules.specs.TypingRules.{ExpectedType}
use Rattle.rules.specs.After.{or_top, local_of, loaded, top_first, stored_type, stored as stored_frame, top_of, rest_of}
use Rattle.rules.specs.Rules.{accepts, is_short, operands, is_outside, local_conditions, conditions}
use Rattle.machine.specs.Values.{Value, number, null, reference, Slot, empty, second, holds, is_wide_value, units, is_wide_slot, ArePairedBehind, ArePaired, behind_lost, second_first, stored}
use Rattle.machine.specs.Heap.{Heap, FitsReference, IsThis}
use Rattle.machine.specs.Effects as effects
use Rattle.machine.specs.Effects.{Demand}
use Rattle.machine.specs.Demands.{State, Meets, HasLocal, MeetsRest, HasRoom}
use Rattle.machine.specs.Steps.{moved, Does}
use Rattle.verify.proofs.safety.Fits.{View, Sound, Fit, Item, Items, SlotFit, Slots, Fits, Keeps, keep, both_yes, val_fit, depth_width}
use Rattle.verify.proofs.safety.Agree.{IsDemanded, demand_units}
use Rattle.verify.proofs.safety.Plain.{accept_meets, yes_of, operands_yes, room}

-- ---- types that are accepted are not top

never_top : (hh : List ClassFact) (x : ExpectedType) (n : Demand) (t : VerificationType) → IsDemanded x n → accepts hh x t ≡ yes → t ≡ top → ⊥
never_top hh x n t a y e = go x n a (subst (λ z. accepts hh x z ≡ yes) e y)
  where
    go : (x : ExpectedType) (n : Demand) → IsDemanded x n → accepts hh x top ≡ yes → ⊥
    go (rules.number kinds.Int) (effects.of_kind l) a y = cc
    go (rules.number kinds.Float) (effects.of_kind l) a y = cc
    go (rules.number kinds.Long) (effects.of_kind l) a y = cc
    go (rules.number kinds.Double) (effects.of_kind l) a y = cc
    go (rules.assignable_to (class_type c)) (effects.of_type l) a y = cc
    go (rules.assignable_to (array_type c)) (effects.of_type l) a y = cc
    go rules.any_reference effects.some_reference a y = cc
    go rules.any_array effects.some_array a y = cc
    go (rules.any_array_for p) (effects.some_array_for q) a y = cc
    go (rules.own_or_assignable_to c) (effects.own_or_of d) a y = cc
    go _ _ a y = elim a [ ]

reference_narrow : (w : World) (h : Heap) (t : ReferenceType) (v : Value) → FitsReference w h t v → is_wide_value v ≡ false
reference_narrow w h t (number k) f = elim f [ ]
reference_narrow w h t null f = refl
reference_narrow w h t (reference a) f = refl

pub fit_wide : (e : View) (h : Heap) (v : Value) (t : VerificationType) → (t ≡ top → ⊥) → Fit e h v t → is_wide_value v ≡ is_wide t
fit_wide e h v top n f = elim (n refl) [ ]
fit_wide e h v int n f = ap is_wide_value f
fit_wide e h v float n f = ap is_wide_value f
fit_wide e h v long n f = ap is_wide_value f
fit_wide e h v double n f = ap is_wide_value f
fit_wide e h v null_type n f = ap is_wide_value f
fit_wide e h v (class c) n f = reference_narrow e.world h (class_type c) v f
fit_wide e h v (array c) n f = reference_narrow e.world h (array_type c) v f
fit_wide e h v uninit_this n f = ap is_wide_value f.0
fit_wide e h v (uninit p) n f = ap is_wide_value f.0

pub fit_item : (e : View) (h : Heap) (v : Value) (t : VerificationType) → (t ≡ top → ⊥) → Fit e h v t → Item e h v t
fit_item e h v t n f = record { wide = fit_wide e h v t n f; fit = f }

-- ---- the value of a local variable that has a type

slot_val : (e : View) (h : Heap) (s : Slot) (t : VerificationType) → (t ≡ top → ⊥) → SlotFit e h s t → (v : Value) × (s ≡ holds v) × Fit e h v t
slot_val e h s top n f = elim (n refl) [ ]
slot_val e h (holds v) t n f = (v, refl, f)
slot_val e h empty t n f = elim f [ ]
slot_val e h second t n f = elim f [ ]

local_at : (e : View) (h : Heap) (ss : List Slot) (ts : List VerificationType) (n : ℕ) → (or_top (slice_get ts n) ≡ top → ⊥) → Slots e h ss ts → (v : Value) × (slice_get ss n ≡ Some (holds v)) × Fit e h v (or_top (slice_get ts n))
local_at e h [] [] n k f = elim (k refl) [ ]
local_at e h (s ∷ ss) (t ∷ ts) zero k f = let r = slot_val e h s t k f.0 in (r.0, ap Some r.1, r.2)
local_at e h (s ∷ ss) (t ∷ ts) (suc n) k f = local_at e h ss ts n k f.1
local_at e h [] (t ∷ ts) n k f = elim f [ ]
local_at e h (s ∷ ss) [] n k f = elim f [ ]

-- the meaning of the conditions on a local variable
pub record Local (e : View) (y : Demand) (n : ℕ) (s : State) (f : FrameFact) : Type 0 where
  pub value : Value
  pub here : slice_get s.locals n ≡ Some (holds value)
  pub item : Item e s.heap value (local_of n f)
  pub meets : Meets e.world s.heap y value

inside_yes : (b : Bool) (a : Outcome) → b ≡ false → is_no (if b then yes else a) ≡ false → (missing_if (if b then yes else a)).1 ≡ false → a ≡ yes
inside_yes false a e p q = yes_of a p q
inside_yes true a e p q = cc

pub local_read : (hh : List ClassFact) (e : View) (x : ExpectedType) (y : Demand) (n k : ℕ) (s : State) (f : FrameFact) → IsDemanded x y → Sound hh e → Fits e s f → NoneHolds (local_conditions hh e.method x n k f) → Local e y n s f
local_read hh e x y n k s f a so fits c =
    let t = local_of n f in
    let ok = inside_yes (is_outside e.method n k) (accepts hh x t) c.1.0 c.0 c.1.1.0 in
    let nt = never_top hh x y t a ok in
    let r = local_at e s.heap s.locals f.locals n nt fits.slots in
    record { value = r.0; here = r.1; item = fit_item e s.heap r.0 t nt r.2; meets = accept_meets hh e s.heap x y r.0 t a so ok r.2 }

pub load_rest : (hh : List ClassFact) (e : View) (x : ExpectedType) (y : Demand) (n k : ℕ) (s : State) (f : FrameFact) → IsDemanded x y → Sound hh e → Fits e s f → NoneHolds (local_conditions hh e.method x n k f) → HasLocal e.world y n s
load_rest hh e x y n k s f a so fits c =
    let r = local_read hh e x y n k s f a so fits c in
    record { value = r.value; here = r.here; meets = r.meets }

value_same : (v u : Value) → Some (holds v) ≡ Some (holds u) → v ≡ u
value_same v u e = cc

pub load_room : (hh : List ClassFact) (e : View) (p : ℕ) (x : ExpectedType) (y : Demand) (n k : ℕ) (s : State) (f : FrameFact) → IsDemanded x y → Sound hh e → Fits e s f → NoneHolds (conditions hh e.method p (rules.loads x n k) f) → HasRoom e.method (effects.reads y n) s
load_room hh e p x y n k s f a so fits c v at =
    let u = local_of n f in
    let r = local_read hh e x y n k s f a so fits c.1 in
    let eq = value_same r.value v (sym r.here ∙ at) in
    let it : Item e s.heap v u = subst (λ z. Item e s.heap z u) eq r.item in
    let d = depth_width e s.heap (v ∷ s.stack) (u ∷ f.stack) (it, fits.items) in
    let deep = room hh e.method p (rules.loads x n k) f c in
    omega arith

pub load_does : (hh : List ClassFact) (e : View) (p : ℕ) (x : ExpectedType) (y : Demand) (n k : ℕ) (s : State) (f : FrameFact) (a : Option Value) (q : ℕ) (t : State) → IsDemanded x y → Sound hh e → Fits e s f → NoneHolds (conditions hh e.method p (rules.loads x n k) f) → Does e.world (effects.reads y n) s a q t → Keeps e t (loaded n f)
load_does hh e p x y n k s f a q t w so fits c d =
    let u = local_of n f in
    let r = local_read hh e x y n k s f w so fits c.1 in
    let eq = value_same r.value d.0 (sym r.here ∙ d.1) in
    keep e t (moved s q (d.0 ∷ s.stack)) (loaded n f) d.3 (record {
      items = (subst (λ v. Item e s.heap v u) eq r.item, fits.items);
      slots = fits.slots;
      paired = fits.paired;
      long = fits.long;
      only = fits.only;
    })

pub count_rest : (hh : List ClassFact) (e : View) (n : ℕ) (s : State) (f : FrameFact) → Sound hh e → Fits e s f → NoneHolds (local_conditions hh e.method (rules.number kinds.Int) n 1 f) → HasLocal e.world (effects.of_kind kinds.Int) n s
count_rest hh e n s f so fits c = load_rest hh e (rules.number kinds.Int) (effects.of_kind kinds.Int) n 1 s f refl so fits c

pub count_does : (e : View) (n : ℕ) (s : State) (f : FrameFact) (a : Option Value) (q : ℕ) (t : State) → Fits e s f → Does e.world (effects.increments n) s a q t → Keeps e t f
count_does e n s f a q t fits d = keep e t (moved s q s.stack) f d.1 (record { items = fits.items; slots = fits.slots; paired = fits.paired; long = fits.long; only = fits.only })

-- ---- stores: pairs stay pairs

paired_tail : (b : Bool) (s : Slot) (ss : List Slot) → ArePairedBehind b (s ∷ ss) → ArePairedBehind (is_wide_slot s) ss
paired_tail true second ss p = p
paired_tail true empty ss p = elim p [ ]
paired_tail true (holds v) ss p = elim p [ ]
paired_tail false second ss p = elim p [ ]
paired_tail false empty ss p = p
paired_tail false (holds v) ss p = p

paired_after_tail : (b : Bool) (ss : List Slot) → ArePairedBehind b ss → ArePaired (behind_lost b ss)
paired_after_tail false ss p = p
paired_after_tail true [] p = elim p [ ]
paired_after_tail true (second ∷ ss) p = p
paired_after_tail true (empty ∷ ss) p = elim p [ ]
paired_after_tail true (holds v ∷ ss) p = elim p [ ]

paired_second : (b : Bool) (ss : List Slot) → 1 ≤ length ss → ArePairedBehind b ss → ArePairedBehind true (second_first ss)
paired_second b [] l p = absurd (omega arith)
paired_second b (s ∷ ss) l p = paired_after_tail (is_wide_slot s) ss (paired_tail b s ss p)

store_zero : (v : Value) (b : Bool) (s : Slot) (ss : List Slot) → units (is_wide_value v) ≤ length (s ∷ ss) → ArePairedBehind b (s ∷ ss) → ArePaired (stored v zero (s ∷ ss))
store_zero v b s ss l p = go (is_wide_value v) l
  where
    go : (c : Bool) → units c ≤ length (s ∷ ss) → ArePairedBehind c (if c then second_first ss else behind_lost (is_wide_slot s) ss)
    go true l = paired_second (is_wide_slot s) ss (omega arith) (paired_tail b s ss p)
    go false l = paired_after_tail (is_wide_slot s) ss (paired_tail b s ss p)

-- a half whose second half goes
half_paired : (b : Bool) (s : Slot) (ss rest : List Slot) → ArePairedBehind b (s ∷ ss) → ArePaired rest → ArePairedBehind b ((if is_wide_slot s then empty else s) ∷ rest)
half_paired true second ss rest p q = q
half_paired true empty ss rest p q = elim p [ ]
half_paired true (holds v) ss rest p q = elim p [ ]
half_paired false second ss rest p q = elim p [ ]
half_paired false empty ss rest p q = q
half_paired false (holds v) ss rest p q = go (is_wide_value v) refl
  where
    go : (d : Bool) → is_wide_value v ≡ d → ArePaired ((if d then empty else holds v) ∷ rest)
    go true e = q
    go false e = subst (λ d. ArePairedBehind d rest) (sym e) q

paired_cons : (b : Bool) (s : Slot) (ss rest : List Slot) → ArePairedBehind b (s ∷ ss) → ArePairedBehind (is_wide_slot s) rest → ArePairedBehind b (s ∷ rest)
paired_cons true second ss rest p q = q
paired_cons true empty ss rest p q = elim p [ ]
paired_cons true (holds v) ss rest p q = elim p [ ]
paired_cons false second ss rest p q = elim p [ ]
paired_cons false empty ss rest p q = q
paired_cons false (holds v) ss rest p q = q

store_later : (v : Value) (n : ℕ) (b : Bool) (ss : List Slot) → suc n + units (is_wide_value v) ≤ length ss → ArePairedBehind b ss → ArePairedBehind b (stored v (suc n) ss)
store_later v n b [] l p = p
store_later v zero b (s ∷ []) l p = absurd (two (is_wide_value v) l)
  where
    two : (c : Bool) → 1 + units c ≤ 1 → ⊥
    two true l = omega arith
    two false l = omega arith
store_later v zero b (s ∷ (r ∷ rs)) l p =
    half_paired b s (r ∷ rs) (stored v zero (r ∷ rs)) p (store_zero v (is_wide_slot s) r rs (omega arith) (paired_tail b s (r ∷ rs) p))
store_later v (suc n) b (s ∷ ss) l p =
    paired_cons b s ss (stored v (suc n) ss) p (store_later v n (is_wide_slot s) ss (omega arith) (paired_tail b s ss p))

store_paired : (v : Value) (n : ℕ) (ss : List Slot) → n + units (is_wide_value v) ≤ length ss → ArePaired ss → ArePaired (stored v n ss)
store_paired v n [] l p = tt
store_paired v zero (s ∷ ss) l p = store_zero v false s ss (omega arith) p
store_paired v (suc n) (s ∷ ss) l p = store_later v n false (s ∷ ss) l p

tail_length : (b : Bool) (ss : List Slot) → length (behind_lost b ss) ≡ length ss
tail_length true [] = refl
tail_length true (s ∷ ss) = refl
tail_length false ss = refl

second_length : (ss : List Slot) → length (second_first ss) ≡ length ss
second_length [] = refl
second_length (s ∷ ss) = ap suc (tail_length (is_wide_slot s) ss)

store_length : (v : Value) (n : ℕ) (ss : List Slot) → length (stored v n ss) ≡ length ss
store_length v n [] = refl
store_length v zero (s ∷ ss) = ap suc (go (is_wide_value v))
  where
    go : (b : Bool) → length (if b then second_first ss else behind_lost (is_wide_slot s) ss) ≡ length ss
    go true = second_length ss
    go false = tail_length (is_wide_slot s) ss
store_length v (suc zero) (s ∷ ss) = ap suc (store_length v zero ss)
store_length v (suc (suc n)) (s ∷ ss) = ap suc (store_length v (suc n) ss)

-- ---- stores: local variables still fit

second_empty : (e : View) (h : Heap) (t : VerificationType) → SlotFit e h second t → SlotFit e h empty t
second_empty e h top f = tt
second_empty e h _ f = elim f [ ]

tail_slots : (e : View) (h : Heap) (b : Bool) (ss : List Slot) (ts : List VerificationType) → ArePairedBehind b ss → Slots e h ss ts → Slots e h (behind_lost b ss) ts
tail_slots e h false ss ts p f = f
tail_slots e h true [] ts p f = elim p [ ]
tail_slots e h true (second ∷ ss) (t ∷ ts) p f = (second_empty e h t f.0, f.1)
tail_slots e h true (second ∷ ss) [] p f = elim f [ ]
tail_slots e h true (empty ∷ ss) ts p f = elim p [ ]
tail_slots e h true (holds v ∷ ss) ts p f = elim p [ ]

second_slots : (e : View) (h : Heap) (b : Bool) (ss : List Slot) (ts : List VerificationType) → ArePairedBehind b ss → Slots e h ss ts → Slots e h (second_first ss) (top_first ts)
second_slots e h b [] [] p f = tt
second_slots e h b (s ∷ ss) (t ∷ ts) p f = (tt, tail_slots e h (is_wide_slot s) ss ts (paired_tail b s ss p) f.1)
second_slots e h b [] (t ∷ ts) p f = elim f [ ]
second_slots e h b (s ∷ ss) [] p f = elim f [ ]

narrow_slot : (e : View) (h : Heap) (v : Value) (t : VerificationType) → is_wide_value v ≡ false → Fit e h v t → SlotFit e h (if is_wide_value v then empty else holds v) t
narrow_slot e h v t w f = subst (λ b. SlotFit e h (if b then empty else holds v) t) (sym w) (val_fit e h v t f)

half_slot : (e : View) (h : Heap) (s : Slot) (t : VerificationType) → SlotFit e h s t → SlotFit e h (if is_wide_slot s then empty else s) (if is_wide t then top else t)
half_slot e h s top f = tt
half_slot e h empty t f = elim f [ ]
half_slot e h second t f = elim f [ ]
half_slot e h (holds v) int f = narrow_slot e h v int (ap is_wide_value f) f
half_slot e h (holds v) float f = narrow_slot e h v float (ap is_wide_value f) f
half_slot e h (holds v) long f = tt
half_slot e h (holds v) double f = tt
half_slot e h (holds v) null_type f = narrow_slot e h v null_type (ap is_wide_value f) f
half_slot e h (holds v) (class c) f = narrow_slot e h v (class c) (reference_narrow e.world h (class_type c) v f) f
half_slot e h (holds v) (array c) f = narrow_slot e h v (array c) (reference_narrow e.world h (array_type c) v f) f
half_slot e h (holds v) uninit_this f = narrow_slot e h v uninit_this (ap is_wide_value f.0) f
half_slot e h (holds v) (uninit p) f = narrow_slot e h v (uninit p) (ap is_wide_value f.0) f

store_at_zero : (e : View) (h : Heap) (v : Value) (t : VerificationType) (b : Bool) (s : Slot) (ss : List Slot) (x : VerificationType) (xs : List VerificationType) → is_wide_value v ≡ is_wide t → SlotFit e h (holds v) t → ArePairedBehind b (s ∷ ss) → Slots e h (s ∷ ss) (x ∷ xs) → Slots e h (stored v zero (s ∷ ss)) (stored_type t zero (x ∷ xs))
store_at_zero e h v t b s ss x xs w f p g = (f, subst (λ c. Slots e h (if is_wide_value v then second_first ss else behind_lost (is_wide_slot s) ss) (if c then top_first xs else xs)) w (go (is_wide_value v)))
  where
    go : (c : Bool) → Slots e h (if c then second_first ss else behind_lost (is_wide_slot s) ss) (if c then top_first xs else xs)
    go true = second_slots e h (is_wide_slot s) ss xs (paired_tail b s ss p) g.1
    go false = tail_slots e h (is_wide_slot s) ss xs (paired_tail b s ss p) g.1

store_slots : (e : View) (h : Heap) (v : Value) (t : VerificationType) (n : ℕ) (b : Bool) (ss : List Slot) (ts : List VerificationType) → is_wide_value v ≡ is_wide t → SlotFit e h (holds v) t → ArePairedBehind b ss → Slots e h ss ts → Slots e h (stored v n ss) (stored_type t n ts)
store_slots e h v t n b [] [] w f p g = tt
store_slots e h v t zero b (s ∷ ss) (x ∷ xs) w f p g = store_at_zero e h v t b s ss x xs w f p g
store_slots e h v t (suc zero) b (s ∷ []) (x ∷ []) w f p g = (half_slot e h s x g.0, tt)
store_slots e h v t (suc zero) b (s ∷ (r ∷ rs)) (x ∷ (y ∷ ys)) w f p g = (half_slot e h s x g.0, store_at_zero e h v t (is_wide_slot s) r rs y ys w f (paired_tail b s (r ∷ rs) p) g.1)
store_slots e h v t (suc zero) b (s ∷ []) (x ∷ (y ∷ ys)) w f p g = elim g.1 [ ]
store_slots e h v t (suc zero) b (s ∷ (r ∷ rs)) (x ∷ []) w f p g = elim g.1 [ ]
store_slots e h v t (suc (suc n)) b (s ∷ ss) (x ∷ xs) w f p g = (g.0, store_slots e h v t (suc n) (is_wide_slot s) ss xs w f (paired_tail b s ss p) g.1)
store_slots e h v t n b [] (x ∷ xs) w f p g = elim g [ ]
store_slots e h v t n b (s ∷ ss) [] w f p g = elim g [ ]

meets_width : (w : World) (h : Heap) (x : ExpectedType) (y : Demand) (v : Value) → IsDemanded x y → Meets w h y v → demand_units y ≡ units (is_wide_value v)
meets_width w h (rules.number j) (effects.of_kind k) v a f = ap (λ z. units (is_wide_value z)) (sym f)
meets_width w h rules.any_reference effects.some_reference (number k) a f = elim f [ ]
meets_width w h rules.any_reference effects.some_reference null a f = refl
meets_width w h rules.any_reference effects.some_reference (reference b) a f = refl
meets_width w h (rules.assignable_to r) (effects.of_type t) v a f = ap units (sym (reference_narrow w h t v f))
meets_width w h rules.any_array effects.some_array (number k) a f = elim f [ ]
meets_width w h rules.any_array effects.some_array null a f = refl
meets_width w h rules.any_array effects.some_array (reference b) a f = refl
meets_width w h (rules.any_array_for p) (effects.some_array_for q) (number k) a f = elim f [ ]
meets_width w h (rules.any_array_for p) (effects.some_array_for q) null a f = refl
meets_width w h (rules.any_array_for p) (effects.some_array_for q) (reference b) a f = refl
meets_width w h (rules.own_or_assignable_to c) (effects.own_or_of d) v a f = own v f
  where
    own : (v : Value) → FitsReference w h (class_type d) v ⊎ IsThis h v → 1 ≡ units (is_wide_value v)
    own v (inl g) = ap units (sym (reference_narrow w h (class_type d) v g))
    own v (inr g) = ap (λ z. units (is_wide_value z)) (sym g.2)
meets_width w h _ _ v a f = elim a [ ]

pub store_rest : (hh : List ClassFact) (e : View) (p : ℕ) (x : ExpectedType) (y : Demand) (n k : ℕ) (s : State) (f : FrameFact) → NoneHolds (conditions hh e.method p (rules.stores x n k) f) → MeetsRest e.world e.method (effects.writes y n k) s
store_rest hh e p x y n k s f c = ltb-false e.method.max_locals (n + k) c.1.0

store_go : (hh : List ClassFact) (e : View) (x : ExpectedType) (y : Demand) (n k : ℕ) (s : State) (f : FrameFact) (v : Value) (rest : List Value) (ts : List VerificationType) → IsDemanded x y → demand_units y ≡ k → Sound hh e → Fits e s f → accepts hh x (top_of ts) ≡ yes → n + k ≤ e.method.max_locals → Items e s.heap (v ∷ rest) ts → (q : ℕ)
    → Fits e (record { at = q; stack = rest; locals = stored v n s.locals; heap = s.heap }) (record { locals = stored_type (top_of ts) n f.locals; stack = rest_of ts; flag = f.flag })
store_go hh e x y n k s f v rest (t ∷ ts) a wk so fits ok fit_in it q =
    let nt = never_top hh x y t a ok in
    let w = fit_wide e s.heap v t nt it.0.fit in
    let m = meets_width e.world s.heap x y v a (accept_meets hh e s.heap x y v t a so ok it.0.fit) in
    let l = fits.long in
    let wide_room : n + units (is_wide_value v) ≤ length s.locals = omega arith in
    record {
      items = it.1;
      slots = store_slots e s.heap v t n false s.locals f.locals w (val_fit e s.heap v t it.0.fit) fits.paired fits.slots;
      paired = store_paired v n s.locals wide_room fits.paired;
      long = store_length v n s.locals ∙ l;
      only = fits.only;
    }
store_go hh e x y n k s f v rest [] a wk so fits ok fit_in it q = elim it [ ]

operand_one : (hh : List ClassFact) (x : ExpectedType) (ts : List VerificationType) → operands hh (x ∷ []) ts ≡ yes → is_short (x ∷ []) ts ≡ false → accepts hh x (top_of ts) ≡ yes
operand_one hh x [] y s = cc
operand_one hh x (t ∷ ts) y s = (both_yes (accepts hh x t) yes y).0

pub store_does : (hh : List ClassFact) (e : View) (p : ℕ) (x : ExpectedType) (y : Demand) (n k : ℕ) (s : State) (f : FrameFact) (a : Option Value) (q : ℕ) (t : State) → IsDemanded x y → demand_units y ≡ k → Sound hh e → Fits e s f → NoneHolds (conditions hh e.method p (rules.stores x n k) f) → Does e.world (effects.writes y n k) s a q t → Keeps e t (stored_frame n f)
store_does hh e p x y n k s f a q t w wk so fits c d =
    let ok = operand_one hh x f.stack (operands_yes hh (x ∷ []) f.stack c.1.1) c.1.1.0 in
    let fit_in = ltb-false e.method.max_locals (n + k) c.1.0 in
    let it = subst (λ z. Items e s.heap z f.stack) d.2 fits.items in
    keep e t (record { at = q; stack = d.1; locals = stored d.0 n s.locals; heap = s.heap }) (stored_frame n f) d.4 (store_go hh e x y n k s f d.0 d.1 f.stack w wk so fits ok fit_in it q)
