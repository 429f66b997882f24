-- The answers for two rows of numbers, place by place.
use Rattle.std.proofs.Common.{◌≡◌, ◌∙◌, ℕ, ◌<◌, true, List, Some, length, slice_get, get_or, refl, sym, ap, subst, arith}
use Rattle.std.specs.Prelude.{option_map}
use Rattle.std.proofs.lemmas.Bool.{false≢true}
use Rattle.std.proofs.lemmas.Option.{slice_get-map, slice_get-get_or}
use Rattle.std.proofs.lemmas.List.{length-map}
use Rattle.hierarchy.specs.Answer.{Outcome, yes, no, missing}
use Rattle.frames.specs.VerificationType.{VerificationType}
use Rattle.frames.specs.Assignable.{type_answer}
use Rattle.frames.specs.FrameAssignable.{list_answer}
use Rattle.frames.specs.PackedFrames.{joined}
use Rattle.frames.proofs.Frames.{list_joined, RowAnswer, row_holds}
use Rattle.frames.proofs.PlaceAnswers.{answer_at, answers_length}
use Rattle.frames.proofs.Types.{type_itself}
use Rattle.type_numbers.specs.Numbers.{Numbering}
use Rattle.type_numbers.specs.Decoding.{type_by, types_by}
use Rattle.blocks.specs.Judgements.{IsJudgement}
use Rattle.method_frames.specs.private.KnownRows.{is_yes, fits}
use Rattle.method_frames.specs.private.TypeRows.{row_answers}

yes_of : (r : Outcome) → is_yes r ≡ true → r ≡ yes
yes_of yes e = refl
yes_of no e = absurd (false≢true e)
yes_of (missing name) e = absurd (false≢true e)

pub judgement : (s : Numbering) → IsJudgement (fits s)
judgement s = record {
  itself = λ a. ap is_yes (type_itself s.classes (type_by s a));
  top = λ a. refl;
}

module _ (s : Numbering) (xs ys : List ℕ) (even : length ys ≡ length xs) where
  abbrev answer : VerificationType → VerificationType → Outcome
  answer = type_answer s.classes

  abbrev os : List Outcome
  os = row_answers s xs ys

  levels : length (types_by s xs) ≡ length (types_by s ys)
  levels = length-map xs (type_by s) ∙ sym even ∙ sym (length-map ys (type_by s))

  pub whole : list_answer answer (types_by s xs) (types_by s ys) ≡ joined os
  whole = list_joined answer (types_by s xs) (types_by s ys) levels

  pub long : length os ≡ length xs
  long = answers_length answer (types_by s xs) (types_by s ys) levels ∙ length-map xs (type_by s)

  typed : (row : List ℕ) (k : ℕ) → k < length row → slice_get (types_by s row) k ≡ Some (type_by s (get_or row k 0))
  typed row k lt = slice_get-map (type_by s) row k ∙ ap (option_map (type_by s)) (slice_get-get_or row k 0 lt)

  pub at : (k : ℕ) → k < length xs → slice_get os k ≡ Some (answer (type_by s (get_or xs k 0)) (type_by s (get_or ys k 0)))
  at k lt = answer_at answer (types_by s xs) (types_by s ys) k _ _ (typed xs k lt) (typed ys k (omega (arith, even, lt)))

  pub fitting : (k : ℕ) → k < length xs → fits s (get_or xs k 0) (get_or ys k 0) ≡ true → slice_get os k ≡ Some yes
  fitting k lt e = at k lt ∙ ap Some (yes_of (answer (type_by s (get_or xs k 0)) (type_by s (get_or ys k 0))) e)

  -- where the whole answer is yes, all fit
  pub all_fit : joined os ≡ yes → (k : ℕ) → k < length xs → fits s (get_or xs k 0) (get_or ys k 0) ≡ true
  all_fit e k lt =
      let all = subst (RowAnswer os) e (row_holds os) in
      ap is_yes (all k _ (at k lt))

  pub each_fits : list_answer answer (types_by s xs) (types_by s ys) ≡ yes → (k : ℕ) → k < length xs → answer (type_by s (get_or xs k 0)) (type_by s (get_or ys k 0)) ≡ yes
  each_fits e k lt = yes_of (answer (type_by s (get_or xs k 0)) (type_by s (get_or ys k 0))) (all_fit (sym whole ∙ e) k lt)
