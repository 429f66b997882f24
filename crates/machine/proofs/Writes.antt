-- Writes to local variables.
use Rattle.std.proofs.Common.{◌≡◌, ℕ, zero, suc, ◌+◌, ◌<◌, ◌≤◌, true, false, List, [], ◌∷◌, length, get_or, set, refl, sym, ◌∙◌, ap, arith, if◌then◌else◌}
use Rattle.std.proofs.lemmas.List.{map-set}
use Rattle.machine.specs.declared.items.Slot.{Slot as RawSlot}
use Rattle.machine.specs.declared.items.Slot.TheVariants as raw
use Rattle.machine.specs.Values.{Value, Slot, empty, second, holds, is_wide_value, is_wide_slot, behind_lost, second_first, stored}
use Rattle.machine.specs.private.Happening.{with_before, with_behind}
use Rattle.machine.specs.Views.{slot_view, locals_of}

pub before_first : (xs : List RawSlot) → locals_of xs ≡ with_before 0 (locals_of xs)
before_first [] = refl
before_first (x ∷ xs) = refl

pub before_wide : (xs : List RawSlot) (n : ℕ) (d : RawSlot) → n < length xs → is_wide_slot (slot_view (get_or xs n d)) ≡ true → locals_of (set xs n raw.Empty) ≡ with_before (suc n) (locals_of xs)
before_wide [] n d lt e = absurd (omega (arith, lt))
before_wide (x ∷ xs) zero d lt e = ap (λ b. (if b then empty else slot_view x) ∷ locals_of xs) (sym e)
before_wide (x ∷ xs) (suc n) d lt e = ap (λ ys. slot_view x ∷ ys) (before_wide xs n d (omega (arith, lt)) e)

pub before_narrow : (xs : List RawSlot) (n : ℕ) (d : RawSlot) → n < length xs → is_wide_slot (slot_view (get_or xs n d)) ≡ false → locals_of xs ≡ with_before (suc n) (locals_of xs)
before_narrow [] n d lt e = absurd (omega (arith, lt))
before_narrow (x ∷ xs) zero d lt e = ap (λ b. (if b then empty else slot_view x) ∷ locals_of xs) (sym e)
before_narrow (x ∷ xs) (suc n) d lt e = ap (λ ys. slot_view x ∷ ys) (before_narrow xs n d (omega (arith, lt)) e)

pub behind_wide : (xs : List RawSlot) (n : ℕ) (d : RawSlot) → suc n < length xs → is_wide_slot (slot_view (get_or xs n d)) ≡ true → locals_of (set xs (suc n) raw.Empty) ≡ with_behind n (locals_of xs)
behind_wide [] n d lt e = absurd (omega (arith, lt))
behind_wide (x ∷ []) n d lt e = absurd (omega (arith, lt))
behind_wide (x ∷ y ∷ xs) zero d lt e = ap (λ b. slot_view x ∷ behind_lost b (slot_view y ∷ locals_of xs)) (sym e)
behind_wide (x ∷ y ∷ xs) (suc n) d lt e = ap (λ ys. slot_view x ∷ ys) (behind_wide (y ∷ xs) n d (omega (arith, lt)) e)

pub behind_last : (xs : List RawSlot) (n : ℕ) → length xs ≤ suc n → locals_of xs ≡ with_behind n (locals_of xs)
behind_last [] n le = refl
behind_last (x ∷ []) zero le = lost (is_wide_slot (slot_view x))
  where
    lost : (b : _) → slot_view x ∷ [] ≡ slot_view x ∷ behind_lost b []
    lost true = refl
    lost false = refl
behind_last (x ∷ y ∷ xs) zero le = absurd (omega (arith, le))
behind_last (x ∷ xs) (suc n) le = ap (λ ys. slot_view x ∷ ys) (behind_last xs n (omega (arith, le)))

pub behind_narrow : (xs : List RawSlot) (n : ℕ) (d : RawSlot) → is_wide_slot (slot_view (get_or xs n d)) ≡ false → locals_of xs ≡ with_behind n (locals_of xs)
behind_narrow [] n d e = refl
behind_narrow (x ∷ xs) zero d e = ap (λ b. slot_view x ∷ behind_lost b (locals_of xs)) (sym e)
behind_narrow (x ∷ xs) (suc n) d e = ap (λ ys. slot_view x ∷ ys) (behind_narrow xs n d e)

pub before_past : (xs : List RawSlot) (n : ℕ) → length xs < n → locals_of xs ≡ with_before n (locals_of xs)
before_past [] n lt = refl
before_past (x ∷ xs) zero lt = refl
before_past (x ∷ xs) (suc zero) lt = absurd (omega (arith, lt))
before_past (x ∷ xs) (suc (suc n)) lt = ap (λ ys. slot_view x ∷ ys) (before_past xs (suc n) (omega (arith, lt)))

-- ---- the store itself

pub narrow : (v : Value) (n : ℕ) (ss : List Slot) → is_wide_value v ≡ false → set (with_behind n (with_before n ss)) n (holds v) ≡ stored v n ss
narrow v n [] e = refl
narrow v zero (s ∷ ss) e = ap (λ b. holds v ∷ (if b then second_first ss else behind_lost (is_wide_slot s) ss)) (sym e)
narrow v (suc zero) (s ∷ []) e = refl
narrow v (suc zero) (s ∷ t ∷ ss) e = ap (λ b. (if is_wide_slot s then empty else s) ∷ holds v ∷ (if b then second_first ss else behind_lost (is_wide_slot t) ss)) (sym e)
narrow v (suc (suc n)) (s ∷ ss) e = ap (λ ys. s ∷ ys) (narrow v (suc n) ss e)

pub wide : (v : Value) (n : ℕ) (ss : List Slot) → is_wide_value v ≡ true → set (set (with_behind (suc n) (with_before n ss)) n (holds v)) (suc n) second ≡ stored v n ss
wide v n [] e = refl
wide v zero (s ∷ []) e = ap (λ b. holds v ∷ (if b then second_first [] else behind_lost (is_wide_slot s) [])) (sym e)
wide v zero (s ∷ t ∷ ss) e = ap (λ b. holds v ∷ (if b then second_first (t ∷ ss) else behind_lost (is_wide_slot s) (t ∷ ss))) (sym e)
wide v (suc zero) (s ∷ []) e = refl
wide v (suc zero) (s ∷ t ∷ []) e = ap (λ b. (if is_wide_slot s then empty else s) ∷ holds v ∷ (if b then second_first [] else behind_lost (is_wide_slot t) [])) (sym e)
wide v (suc zero) (s ∷ t ∷ u ∷ ss) e = ap (λ b. (if is_wide_slot s then empty else s) ∷ holds v ∷ (if b then second_first (u ∷ ss) else behind_lost (is_wide_slot t) (u ∷ ss))) (sym e)
wide v (suc (suc n)) (s ∷ ss) e = ap (λ ys. s ∷ ys) (wide v (suc n) ss e)

module _ (n : ℕ) (v : RawSlot) (w : Value) (is : slot_view v ≡ holds w) (old before behind : List RawSlot) where
  pub stored_narrow : locals_of before ≡ with_before n (locals_of old) → locals_of behind ≡ with_behind n (locals_of before) → is_wide_value w ≡ false → locals_of (set behind n v) ≡ stored w n (locals_of old)
  stored_narrow e f k =
      map-set slot_view behind n v ∙ ap (λ z. set (locals_of behind) n z) is ∙ ap (λ z. set z n (holds w)) (f ∙ ap (with_behind n) e)
      ∙ narrow w n (locals_of old) k

  pub stored_wide : locals_of before ≡ with_before n (locals_of old) → locals_of behind ≡ with_behind (n + 1) (locals_of before) → is_wide_value w ≡ true → locals_of (set (set behind n v) (n + 1) raw.Second) ≡ stored w n (locals_of old)
  stored_wide e f k =
      let next : n + 1 ≡ suc n = omega arith in
      map-set slot_view (set behind n v) (n + 1) raw.Second
      ∙ ap (λ z. set z (n + 1) second) (map-set slot_view behind n v ∙ ap (λ z. set (locals_of behind) n z) is ∙ ap (λ z. set z n (holds w)) (f ∙ ap (with_behind (n + 1)) e))
      ∙ ap (λ j. set (set (with_behind j (with_before n (locals_of old))) n (holds w)) j second) next
      ∙ wide w n (locals_of old) k
