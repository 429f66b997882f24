-- Writes to local variables.
use Rattle.std.proofs.Common.{◌≡◌, ℕ, zero, suc, ◌+◌, ◌<◌, ◌≤◌, true, false, List, [], ◌∷◌, length, get_or, set, refl, sym, ◌∙◌, ap, arith, if◌then◌else◌}
use Rattle.frames.specs.VerificationType.{VerificationType, top}
use Rattle.frames.specs.Slots.{is_wide}
use Rattle.rules.specs.After.{stored_type, top_first}
use Rattle.rules.specs.Views.{with_half_free}

pub free_first : (xs : List VerificationType) → xs ≡ with_half_free 0 xs
free_first [] = refl
free_first (x ∷ xs) = refl

pub free_wide : (xs : List VerificationType) (n : ℕ) → n < length xs → is_wide (get_or xs n top) ≡ true → set xs n top ≡ with_half_free (suc n) xs
free_wide [] n lt e = absurd (omega (arith, lt))
free_wide (x ∷ xs) zero lt e = ap (λ b. (if b then top else x) ∷ xs) (sym e)
free_wide (x ∷ xs) (suc n) lt e = ap (λ ys. x ∷ ys) (free_wide xs n (omega (arith, lt)) e)

pub free_narrow : (xs : List VerificationType) (n : ℕ) → n < length xs → is_wide (get_or xs n top) ≡ false → xs ≡ with_half_free (suc n) xs
free_narrow [] n lt e = absurd (omega (arith, lt))
free_narrow (x ∷ xs) zero lt e = ap (λ b. (if b then top else x) ∷ xs) (sym e)
free_narrow (x ∷ xs) (suc n) lt e = ap (λ ys. x ∷ ys) (free_narrow xs n (omega (arith, lt)) e)

-- ---- the store itself, where what is before it is free

pub store_narrow : (t : VerificationType) (n : ℕ) (xs : List VerificationType) → is_wide t ≡ false → n < length xs → set (with_half_free n xs) n t ≡ stored_type t n xs
store_narrow t n [] e lt = absurd (omega (arith, lt))
store_narrow t zero (x ∷ xs) e lt = ap (λ b. t ∷ (if b then top_first xs else xs)) (sym e)
store_narrow t (suc zero) (x ∷ []) e lt = absurd (omega (arith, lt))
store_narrow t (suc zero) (x ∷ y ∷ xs) e lt = ap (λ b. (if is_wide x then top else x) ∷ t ∷ (if b then top_first xs else xs)) (sym e)
store_narrow t (suc (suc n)) (x ∷ xs) e lt = ap (λ ys. x ∷ ys) (store_narrow t (suc n) xs e (omega (arith, lt)))

pub store_last : (t : VerificationType) (n : ℕ) (xs : List VerificationType) → is_wide t ≡ true → n < length xs → length xs ≤ suc n → set (with_half_free n xs) n t ≡ stored_type t n xs
store_last t n [] e lt le = absurd (omega (arith, lt))
store_last t zero (x ∷ []) e lt le = ap (λ b. t ∷ (if b then top_first [] else [])) (sym e)
store_last t zero (x ∷ y ∷ xs) e lt le = absurd (omega (arith, le))
store_last t (suc zero) (x ∷ []) e lt le = absurd (omega (arith, lt))
store_last t (suc zero) (x ∷ y ∷ []) e lt le = ap (λ b. (if is_wide x then top else x) ∷ t ∷ (if b then top_first [] else [])) (sym e)
store_last t (suc zero) (x ∷ y ∷ z ∷ xs) e lt le = absurd (omega (arith, le))
store_last t (suc (suc n)) (x ∷ xs) e lt le = ap (λ ys. x ∷ ys) (store_last t (suc n) xs e (omega (arith, lt)) (omega (arith, le)))

store_both : (t : VerificationType) (n : ℕ) (xs : List VerificationType) → is_wide t ≡ true → suc n < length xs → set (set (with_half_free n xs) n t) (suc n) top ≡ stored_type t n xs
store_both t n [] e lt = absurd (omega (arith, lt))
store_both t zero (x ∷ []) e lt = absurd (omega (arith, lt))
store_both t zero (x ∷ y ∷ xs) e lt = ap (λ b. t ∷ (if b then top ∷ xs else y ∷ xs)) (sym e)
store_both t (suc zero) (x ∷ []) e lt = absurd (omega (arith, lt))
store_both t (suc zero) (x ∷ y ∷ []) e lt = absurd (omega (arith, lt))
store_both t (suc zero) (x ∷ y ∷ z ∷ xs) e lt = ap (λ b. (if is_wide x then top else x) ∷ t ∷ (if b then top ∷ xs else z ∷ xs)) (sym e)
store_both t (suc (suc n)) (x ∷ xs) e lt = ap (λ ys. x ∷ ys) (store_both t (suc n) xs e (omega (arith, lt)))

pub store_wide : (t : VerificationType) (n : ℕ) (xs : List VerificationType) → is_wide t ≡ true → n + 1 < length xs → set (set (with_half_free n xs) n t) (n + 1) top ≡ stored_type t n xs
store_wide t n xs e lt =
    let next : n + 1 ≡ suc n = omega arith in
    ap (λ k. set (set (with_half_free n xs) n t) k top) next ∙ store_both t n xs e (omega (arith, lt))
