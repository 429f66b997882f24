-- Instructions by their places in the list, and by their offsets.
use Rattle.std.specs.Prelude.{nat_eq}
use Rattle.std.proofs.Common.{◌≡◌, ℕ, ◌+◌, ◌<◌, ◌≤◌, zero, suc, Bool, true, false, List, [], ◌∷◌, length, get_or, slice_get, option_map, Option, Some, None, if◌then◌else◌, Ok, Err, refl, sym, ap, ◌∙◌, arith, ne_eqb}
use Rattle.std.specs.Option.{is_some}
use Rattle.std.specs.List.Sorted.{IsSearchInRange, IsBinarySearchResult}
use Rattle.std.specs.Ordering.{nat_cmp}
use Rattle.std.proofs.lemmas.Cmp.{ranked}
use Rattle.std.proofs.lemmas.Bool.Decides.{nat_tests}
use Rattle.insn.specs.declared.instruction.Insn.{Insn}
use Rattle.insn.specs.Meanings.{Act, act}
use Rattle.insn.specs.Offsets.{acts, at_offset, next_offset, first_offset, has_offset, StartsRise}
use Rattle.insn.specs.Views.{view, views}
use Rattle.insn.proofs.Starts.{from_here, searched}

-- ---- what stands at an offset

alike : {A B : Type 0} → (b : Bool) (x : A) (y : B) (o : Option A) (p : Option B) → is_some o ≡ is_some p
    → is_some (if b then Some x else o) ≡ is_some (if b then Some y else p)
alike true x y o p e = refl
alike false x y o p e = e

pub begins : (xs : List (ℕ × Insn)) (at : ℕ) → has_offset (views xs) at ≡ has_offset (acts (views xs)) at
begins [] at = refl
begins (x ∷ xs) at =
    alike (nat_eq x.0 at) (view x.1) (act (view x.1)) (at_offset (views xs) at) (at_offset (acts (views xs)) at) (begins xs at)

is_none : {A : Type 0} → (o : Option A) → is_some o ≡ false → o ≡ None
is_none None e = refl
is_none (Some a) e = cc

head : (xs : List (ℕ × Insn)) → first_offset (acts (views xs)) ≡ option_map (λ x. x.0) (slice_get xs 0)
head [] = refl
head (x ∷ xs) = refl

found_here : (n : ℕ) (xs : List (ℕ × Insn)) (k at : ℕ) (d : ℕ × Insn) → StartsRise n (views xs) → k < length xs → (get_or xs k d).0 ≡ at
    → (at_offset (acts (views xs)) at ≡ Some (act (view (get_or xs k d).1))) × (next_offset (acts (views xs)) at ≡ option_map (λ x. x.0) (slice_get xs (suc k)))
found_here n [] k at d r lt e = absurd (omega (arith, lt))
found_here n (x ∷ xs) zero at d r lt e =
    let here : nat_eq x.0 at ≡ true = grind (arith, nat_tests, e) in (
      ap (λ b. if b then Some (act (view x.1)) else at_offset (acts (views xs)) at) here,
      ap (λ b. if b then first_offset (acts (views xs)) else next_offset (acts (views xs)) at) here ∙ head xs,
    )
found_here n (x ∷ xs) (suc k) at d r lt e =
    let behind : x.0 + 1 ≤ (get_or xs k d).0 = from_here (x.0 + 1) xs k d r.1 (omega (arith, lt)) in
    let apart : nat_eq x.0 at ≡ false = grind (arith, nat_tests, e, behind) in
    let later = found_here (x.0 + 1) xs k at d r.1 (omega (arith, lt)) e in (
      ap (λ b. if b then Some (act (view x.1)) else at_offset (acts (views xs)) at) apart ∙ later.0,
      ap (λ b. if b then first_offset (acts (views xs)) else next_offset (acts (views xs)) at) apart ∙ later.1,
    )

module _ (xs : List (ℕ × Insn)) (at : ℕ) (rising : StartsRise 0 (views xs)) where
  pub missed : (k : ℕ) → IsSearchInRange (Err k) (length xs) → IsBinarySearchResult (λ (x : ℕ × Insn). nat_cmp x.0 at) xs (Err k) → at_offset (acts (views xs)) at ≡ None
  missed k within r = is_none (at_offset (acts (views xs)) at) (sym (begins xs at) ∙ sym (searched xs at (Err k) within r rising))

  pub met : (k : ℕ) (d : ℕ × Insn) (a : Act) (next : Option ℕ) → k < length xs → IsBinarySearchResult (λ (x : ℕ × Insn). nat_cmp x.0 at) xs (Ok k)
      → a ≡ act (view (get_or xs k d).1) → next ≡ option_map (λ x. x.0) (slice_get xs (k + 1))
      → (at_offset (acts (views xs)) at ≡ Some a) × (next_offset (acts (views xs)) at ≡ next)
  met k d a next lt equal e f =
      let same : (get_or xs k d).0 ≡ at = ranked _ at _ (sym (equal d)) in
      let r = found_here 0 xs k at d rising lt same in
      let behind : k + 1 ≡ suc k = omega arith in
      (r.0 ∙ ap (λ b. Some b) (sym e), r.1 ∙ ap (λ n. option_map (λ (x : ℕ × Insn). x.0) (slice_get xs n)) (sym behind) ∙ sym f)

-- ---- after the last of offsets that rise nothing begins

pub past_last : {A : Type 0} (n : ℕ) (xs : List (ℕ × A)) (i : ℕ) (d : ℕ × A) (at : ℕ) → StartsRise n xs → i + 1 ≡ length xs → (get_or xs i d).0 < at
    → (n ≤ (get_or xs i d).0) × (at_offset xs at ≡ None)
past_last n [] i d at s e lt = absurd (omega (arith, e))
past_last n (x ∷ []) zero d at s e lt = (s.0, rw (ne_eqb x.0 at (λ q. absurd (omega (arith, q, lt)))) refl)
past_last n (x ∷ y ∷ xs) zero d at s e lt = absurd (omega (arith, e))
past_last n (x ∷ xs) (suc k) d at s e lt =
    let r = past_last (x.0 + 1) xs k d at s.1 (omega (arith, e)) lt in
    (omega (arith, s.0, r.0), rw (ne_eqb x.0 at (λ q. absurd (omega (arith, q, r.0, lt)))) (r.1))
