-- The numbers of rows, which were given to types.
use Rattle.std.proofs.Common.{◌∙◌, ℕ, List, replicate, set, get_or, refl, sym, ap, subst, inl, inr, arith}
use Rattle.std.proofs.lemmas.Bool.{cases_eq}
use Rattle.std.proofs.lemmas.List.{length-set, length-replicate, get_or-set_same, get_or-set_other, get_or-replicate}
use Rattle.frames.specs.VerificationType.{top}
use Rattle.type_numbers.specs.Numbers.{Numbering, IsGiven}
use Rattle.method_frames.specs.private.KnownRows.{AreGiven}

pub top_given : (s : Numbering) → IsGiven s 0
top_given s = (top, record { number = refl; noted = tt })

pub tops_given : (s : Numbering) (count : ℕ) → AreGiven s (replicate count 0)
tops_given s count place lt =
    let zero_number : ℕ = 0 in
    let long = length-replicate count zero_number in
    subst (IsGiven s) (sym (get_or-replicate count place 0 0 (omega (arith, long, lt)))) (top_given s)

pub set_given : (s : Numbering) (row : List ℕ) (place n : ℕ) → AreGiven s row → IsGiven s n → AreGiven s (set row place n)
set_given s row place n all h k lt =
    let long = length-set row place n in
    elim (cases_eq k place) [
      | inl e ↦ subst (IsGiven s) (sym (ap (λ j. get_or (set row place n) j 0) e ∙ get_or-set_same row place n 0 (omega (arith, long, lt, e)))) h
      | inr ne ↦ subst (IsGiven s) (sym (get_or-set_other row place k n 0 ne)) (all k (omega (arith, long, lt)))
    ]
