-- Answers on files, one after the other.
use Rattle.std.proofs.Common.{◌≡◌, ℕ, ◌+◌, ◌<◌, List, ◌++◌, length, drop, slice_index_or, ◌∙◌, ap, sym, ◌≤◌, Bool, true, false, nat_lt, cond, refl, arith}
use Rattle.std.proofs.lemmas.Bool.{ltb-false, ltb-true}
use Rattle.std.proofs.lemmas.List.{at_drop_more}
use Rattle.verify.specs.declared.judgements.Judgement.{Judgement}
use Rattle.answers.specs.declared.command.Form.{Form}
use Rattle.answers.specs.Judgements.{numbered_lines, lines_from, judgement_status, greater, worst_status}

-- the lines of the file at i, in front of those after it
pub lines_left : (form : Form) (js : List Judgement) (i : ℕ) (j : Judgement) → i < length js → j ≡ slice_index_or js i j
    → lines_from form (i + 1) (drop i js) ≡ numbered_lines form (i + 1) j ++ lines_from form ((i + 1) + 1) (drop (i + 1) js)
lines_left form js i j lt here =
    at_drop_more (lines_from form (i + 1)) js i j lt ∙ ap (λ y. numbered_lines form (i + 1) y ++ lines_from form ((i + 1) + 1) (drop (i + 1) js)) (sym here)

-- ---- the greatest

not_less : (a b : ℕ) → b ≤ a → greater a b ≡ a
not_less a b le = by (nat_lt a b) refl
  where
    by : (t : Bool) → nat_lt a b ≡ t → cond t b a ≡ a
    by true e = let lt = ltb-true a b e in absurd (omega (arith, lt, le))
    by false e = refl

is_less : (a b : ℕ) → a < b → greater a b ≡ b
is_less a b lt = by (nat_lt a b) refl
  where
    by : (t : Bool) → nat_lt a b ≡ t → cond t b a ≡ b
    by true e = refl
    by false e = let le = ltb-false a b e in absurd (omega (arith, lt, le))
