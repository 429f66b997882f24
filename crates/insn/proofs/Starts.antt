-- Offsets in a list of instructions.
use Rattle.std.proofs.Common.{◌≡◌, ℕ, ◌+◌, ◌<◌, ◌≤◌, zero, suc, Bool, true, false, eqb, List, [], ◌∷◌, length, get_or, Option, Some, if◌then◌else◌, Result, Ok, Err, refl, sym, ap, ◌∙◌, arith}
use Rattle.std.specs.Prelude.{◌||◌}
use Rattle.std.specs.List.{list_any}
use Rattle.std.specs.Option.{is_some}
use Rattle.std.specs.Result.{is_ok}
use Rattle.std.specs.List.Sorted.{IsSearchInRange, IsBinarySearchResult, IsNonDecreasingBy}
use Rattle.std.specs.Ordering.{nat_cmp, ordering_index}
use Rattle.std.proofs.lemmas.Cmp.{ranked}
use Rattle.std.proofs.lemmas.List.Sorted.{IsNonDecreasingBy-from_default}
use Rattle.std.proofs.lemmas.Bool.Decides.{nat_tests}
use Rattle.insn.specs.declared.instruction.Insn.{Insn}
use Rattle.insn.specs.declared.instruction.Operands.TheVariants.{Nothing}
use Rattle.insn.specs.declared.opcode.Opcode.TheVariants.{Nop}
use Rattle.insn.specs.Offsets.{at_offset, has_offset, StartsRise}
use Rattle.insn.specs.Views.{view, views}

some_behind : {A : Type 0} → (b : Bool) (a : A) (o : Option A) → is_some o ≡ true → is_some (if b then Some a else o) ≡ true
some_behind true a o e = refl
some_behind false a o e = e

start_at : (xs : List (ℕ × Insn)) (k at : ℕ) (d : ℕ × Insn) → k < length xs → (get_or xs k d).0 ≡ at → has_offset (views xs) at ≡ true
start_at [] k at d lt e = absurd (omega (arith, lt))
start_at (x ∷ xs) zero at d lt e = let here : eqb x.0 at ≡ true = grind (arith, nat_tests, e) in ap (λ b. is_some (if b then Some (view x.1) else at_offset (views xs) at)) here
start_at (x ∷ xs) (suc k) at d lt e = some_behind (eqb x.0 at) (view x.1) (at_offset (views xs) at) (start_at xs k at d (omega (arith, lt)) e)

no_start : (xs : List (ℕ × Insn)) (at : ℕ) (d : ℕ × Insn) → ((k : ℕ) → k < length xs → (get_or xs k d).0 ≡ at → ⊥) → has_offset (views xs) at ≡ false
no_start [] at d free = refl
no_start (x ∷ xs) at d free =
    let here : eqb x.0 at ≡ false = grind (arith, nat_tests, free 0) in
    ap (λ b. is_some (if b then Some (view x.1) else at_offset (views xs) at)) here ∙ no_start xs at d (λ k lt. free (suc k) (omega (arith, lt)))

-- where the offsets rise, one that stands further on is greater
pub from_here : (n : ℕ) (xs : List (ℕ × Insn)) (k : ℕ) (d : ℕ × Insn) → StartsRise n (views xs) → k < length xs → n ≤ (get_or xs k d).0
from_here n [] k d r lt = absurd (omega (arith, lt))
from_here n (x ∷ xs) zero d r lt = r.0
from_here n (x ∷ xs) (suc k) d r lt = omega (arith, r.0, from_here (x.0 + 1) xs k d r.1 (omega (arith, lt)))

in_order : (n : ℕ) (xs : List (ℕ × Insn)) (i j : ℕ) (d : ℕ × Insn) → StartsRise n (views xs) → i < j → j < length xs → (get_or xs i d).0 < (get_or xs j d).0
in_order n [] i j d r lt within = absurd (omega (arith, within))
in_order n (x ∷ xs) i zero d r lt within = absurd (omega (arith, lt))
in_order n (x ∷ xs) zero (suc j) d r lt within = omega (arith, from_here (x.0 + 1) xs j d r.1 (omega (arith, within)))
in_order n (x ∷ xs) (suc i) (suc j) d r lt within = in_order (x.0 + 1) xs i j d r.1 (omega (arith, lt)) (omega (arith, within))

-- what a search says that meets no instruction
abbrev none : ℕ × Insn
none = (0, record { opcode = Nop; operands = Nothing })

module _ (xs : List (ℕ × Insn)) (at : ℕ) where
  abbrev compared : ℕ × Insn → ℕ
  compared x = ordering_index (nat_cmp x.0 at)

  rises : StartsRise 0 (views xs) → IsNonDecreasingBy compared xs
  rises r = IsNonDecreasingBy-from_default compared xs none (λ i j le within.
      let greater : (get_or xs i none).0 ≤ (get_or xs j none).0 = grind (arith, in_order 0 xs i j none r, λ (same : i ≡ j). ap (λ (k : ℕ). (get_or xs k none).0) same) in
      grind (arith, nat_tests))

  -- what a binary search returns
  pub searched : (r : Result ℕ ℕ) → IsSearchInRange r (length xs) → IsBinarySearchResult (λ (x : ℕ × Insn). nat_cmp x.0 at) xs r
      → StartsRise 0 (views xs) → is_ok r ≡ has_offset (views xs) at
  searched (Ok k) within equal r = sym (start_at xs k at none within (ranked _ at _ (sym (equal none))))
  searched (Err k) within parted r =
      sym (no_start xs at none (λ j lt same.
      let below : j < k → ⊥ = λ h. absurd (omega (arith, same, ranked _ at _ (sym ((parted (rises r)).0 j none (omega arith) h)))) in
      let above : k ≤ j → ⊥ = λ h. absurd (omega (arith, same, ranked _ at _ (sym ((parted (rises r)).1 j none h lt)))) in
      grind (arith, below, above)))

-- ---- one after the other

either : {A : Type 0} → (b : Bool) (a : A) (o : Option A) (rest : Bool) → rest ≡ is_some o → (b || rest) ≡ is_some (if b then Some a else o)
either true a o rest e = refl
either false a o rest e = e

pub looked : (xs : List (ℕ × Insn)) (at : ℕ) → list_any (λ x. eqb x.0 at) xs ≡ has_offset (views xs) at
looked [] at = refl
looked (x ∷ xs) at = either (eqb x.0 at) (view x.1) (at_offset (views xs) at) (list_any (λ x. eqb x.0 at) xs) (looked xs at)
