-- The numbers of items, which were given to types.
use Rattle.std.proofs.Common.{◌≡◌, ◌∙◌, ℕ, zero, suc, ◌+◌, ◌-◌, List, [], ◌∷◌, ◌++◌, Option, length, drop, get_or, slice_get, reverse, refl, sym, subst, inl, inr, arith}
use Rattle.std.specs.Prelude.{IfSome}
use Rattle.std.proofs.lemmas.Bool.{cases_lt}
use Rattle.std.proofs.lemmas.List.{length-reverse, length-drop, get_or-drop, get_or-reverse, get_or_past}
use Rattle.std.proofs.lemmas.Option.{slice_get-get_or, slice_get_past}
use Rattle.insn.specs.Operators.{StackForm}
use Rattle.insn.specs.OperandStacks.{beneath, chosen, with_item, rearranged}
use Rattle.type_numbers.specs.Numbers.{Numbering, IsGiven}
use Rattle.method_frames.specs.private.KnownRows.{AreGiven}
use Rattle.method_frames.proofs.Given.{top_given}

pub none_given : (s : Numbering) → AreGiven s []
none_given s place lt = absurd (omega (arith, lt))

pub pushed_given : (s : Numbering) (xs : List ℕ) (n : ℕ) → AreGiven s xs → IsGiven s n → AreGiven s (n ∷ xs)
pushed_given s xs n all h zero lt = h
pushed_given s xs n all h (suc k) lt = all k (omega (arith, lt))

pub popped_given : (s : Numbering) (xs : List ℕ) (n : ℕ) → AreGiven s (n ∷ xs) → AreGiven s xs
popped_given s xs n all k lt = all (suc k) (omega (arith, lt))

-- from the bottom up, with Top above
pub reversed_given : (s : Numbering) (xs : List ℕ) → AreGiven s xs → (k : ℕ) → IsGiven s (get_or (reverse xs) k 0)
reversed_given s xs all k =
    let long = length-reverse xs in
    elim (cases_lt k (length xs)) [
      | inl lt ↦ subst (IsGiven s) (sym (get_or-reverse xs k 0 lt)) (all (length xs - 1 - k) (omega (arith, lt)))
      | inr le ↦ subst (IsGiven s) (sym (get_or_past (reverse xs) k 0 (omega (arith, le, long)))) (top_given s)
    ]

-- ---- as a form leaves them

append_given : (s : Numbering) (xs ys : List ℕ) → AreGiven s xs → AreGiven s ys → AreGiven s (xs ++ ys)
append_given s [] ys all more = more
append_given s (x ∷ xs) ys all more = pushed_given s (xs ++ ys) x (append_given s xs ys (popped_given s xs x all) more) (all 0 (omega arith))

drop_given : (s : Numbering) (k : ℕ) (xs : List ℕ) → AreGiven s xs → AreGiven s (drop k xs)
drop_given s k xs all p lt =
    let long = length-drop k xs in
    subst (IsGiven s) (sym (get_or-drop k xs p 0)) (all (k + p) (omega (arith, lt, long)))

chosen_given : (s : Numbering) (xs places : List ℕ) → AreGiven s xs → AreGiven s (chosen xs places)
chosen_given s xs [] all = none_given s
chosen_given s xs (n ∷ ns) all = elim (cases_lt n (length xs)) [
  | inl lt ↦ subst (λ o. AreGiven s (with_item o (chosen xs ns))) (sym (slice_get-get_or xs n 0 lt)) (pushed_given s (chosen xs ns) (get_or xs n 0) (chosen_given s xs ns all) (all n lt))
  | inr le ↦ subst (λ o. AreGiven s (with_item o (chosen xs ns))) (sym (slice_get_past xs n le)) (chosen_given s xs ns all)
]

pub beneath_drop : {A B : Type 0} (ps : List A) (xs : List B) → beneath ps xs ≡ drop (length ps) xs
beneath_drop [] xs = refl
beneath_drop (p ∷ ps) [] = refl
beneath_drop (p ∷ ps) (x ∷ xs) = beneath_drop ps xs

pub form_given : (s : Numbering) (form : StackForm) (xs : List ℕ) → AreGiven s xs → AreGiven s (rearranged form xs)
form_given s form xs all =
    append_given s (chosen xs form.leaves) (beneath form.takes xs) (chosen_given s xs form.leaves all)
    (subst (AreGiven s) (sym (beneath_drop form.takes xs)) (drop_given s (length form.takes) xs all))

-- an item that is there
pub item_given : (s : Numbering) (xs : List ℕ) (k : ℕ) (o : Option ℕ) → AreGiven s xs → o ≡ slice_get xs k → IfSome o (IsGiven s)
item_given s xs k o all e = elim (cases_lt k (length xs)) [
  | inl lt ↦ subst (λ p. IfSome p (IsGiven s)) (sym (e ∙ slice_get-get_or xs k 0 lt)) (all k lt)
  | inr le ↦ subst (λ p. IfSome p (IsGiven s)) (sym (e ∙ slice_get_past xs k le)) tt
]
