-- A walk along the places of the running row that are not known to fit a declared one.
use Rattle.std.proofs.Common.{◌≡◌, ◌≢◌, ◌∙◌, ℕ, ◌+◌, ◌-◌, ◌<◌, ◌≤◌, List, [], Some, None, length, drop, slice_get, get_or, refl, sym, ap, subst, inl, inr, arith}
use Rattle.std.proofs.lemmas.Bool.{cases_lt}
use Rattle.hierarchy.proofs.Names.{same_some}
use Rattle.hierarchy.specs.Answer.{Outcome, yes, no}
use Rattle.frames.specs.Assignable.{type_answer}
use Rattle.frames.specs.FrameAssignable.{both, list_answer}
use Rattle.frames.specs.PackedFrames.{joined}
use Rattle.frames.proofs.PlaceAnswers.{walk_on, walk_over, walk_no, walk_end}
use Rattle.blocks.specs.Rows.{Rows, declared_row, IsSettled, IsFirstUndecided, IsSaidToFit}
use Rattle.blocks.proofs.Judging.{settled_slots_fit, truths_stay}
use Rattle.type_numbers.specs.Numbers.{Numbering}
use Rattle.type_numbers.specs.Decoding.{type_by, types_by}
use Rattle.method_frames.specs.NumberedRows.{NumberedRows, declared_in}
use Rattle.method_frames.specs.private.KnownRows.{AreGiven, AreKnown, fits}
use Rattle.method_frames.specs.private.TypeRows.{row_answers, answer_for, FitsUpTo, IsUnfit}
use Rattle.method_frames.proofs.Answering.{judgement, whole, long, at, fitting, all_fit}
use Rattle.method_frames.proofs.Knowing.{view_of}

module _ (s : Numbering) (rows : Rows) (x : NumberedRows) (is : view_of s rows ≡ x) (known : AreKnown s rows) (row : ℕ) (r : row < length x.declared) where
  abbrev os : List Outcome
  os = row_answers x.types x.running (declared_in x row)

  abbrev whole_answer : Outcome
  whole_answer = list_answer (type_answer x.types.classes) (types_by x.types x.running) (types_by x.types (declared_in x row))

  within : row < length rows.declared
  within = subst (λ y. row < length y.declared) (sym is) r

  even : length (declared_in x row) ≡ length x.running
  even = subst (λ y. length (declared_in y row) ≡ length y.running) is (known.even row within)

  settled_yes : (place : ℕ) → place < length rows.running → IsSettled rows row place → slice_get os place ≡ Some yes
  settled_yes place lt h =
      subst (λ y. slice_get (row_answers y.types y.running (declared_in y row)) place ≡ Some yes) is
      (fitting s rows.running (declared_row rows row) (known.even row within) place lt (settled_slots_fit (fits s) (judgement s) rows row place known.known h))

  long_rows : length rows.running ≡ length x.running
  long_rows = ap (λ y. length y.running) is

  module _ (so_far : Outcome) (from : ℕ) (rest : joined os ≡ both so_far (joined (drop from os))) where
    to_place : (place : ℕ) → IsFirstUndecided rows row from (Some place) → joined os ≡ both so_far (joined (drop place os))
    to_place place h =
        let le = h.0 in
        let lt = h.1 in
        let same : from + (place - from) ≡ place = omega (arith, le) in
        subst (λ j. joined os ≡ both so_far (joined (drop j os))) same
        (walk_over os so_far from rest (place - from) (λ j low high. settled_yes j (omega (arith, lt, high, same)) (h.3 j low (omega (arith, high, same)))))

    module _ (place : ℕ) (h : IsFirstUndecided rows row from (Some place)) (a : Outcome)
        (e : a ≡ type_answer x.types.classes (type_by x.types (get_or x.running place 0)) (type_by x.types (get_or (declared_in x row) place 0))) where
      inside : place < length x.running
      inside = let lt = h.1 in let same = long_rows in omega (arith, lt, same)

      here : slice_get os place ≡ Some a
      here = at x.types x.running (declared_in x row) even place inside ∙ ap Some (sym e)

      pub at_no : a ≡ no → no ≡ whole_answer
      at_no n = walk_no os so_far place (to_place place h) (here ∙ ap Some n) ∙ sym (whole x.types x.running (declared_in x row) even)

      pub past : joined os ≡ both (both so_far a) (joined (drop (place + 1) os))
      past = walk_on os so_far place (to_place place h) a here

      pub next_within : place + 1 ≤ length x.running
      next_within = let lt = inside in omega (arith, lt)

      -- the places in front of it fit
      in_front : FitsUpTo x.types x.running (declared_in x row) from → FitsUpTo x.types x.running (declared_in x row) place
      in_front fit k less = elim (cases_lt k from) [
        | inl low ↦ fit k low
        | inr ge ↦
            (let lt = h.1 in
            let here = inside in
            same_some (at x.types x.running (declared_in x row) even k (omega (arith, less, here))) (settled_yes k (omega (arith, less, lt)) (h.3 k ge less)))
      ]

      pub here_unfit : FitsUpTo x.types x.running (declared_in x row) from → a ≢ yes → IsUnfit x.types x.running (declared_in x row) (place + 1)
      here_unfit fit n = record { within = next_within; place = place; last = refl; here = λ k. n (e ∙ k); before = in_front fit }

      pub here_fits : FitsUpTo x.types x.running (declared_in x row) from → a ≡ yes → FitsUpTo x.types x.running (declared_in x row) (place + 1)
      here_fits fit y k less = elim (cases_lt k place) [
        | inl low ↦ in_front fit k low
        | inr ge ↦ (let same : k ≡ place = omega (arith, less, ge) in subst (λ j. answer_for x.types x.running (declared_in x row) j ≡ yes) (sym same) (sym e ∙ y))
      ]

    pub at_end : from ≤ length x.running → IsFirstUndecided rows row from None → so_far ≡ whole_answer
    at_end few h =
        let same = long_rows in
        let n = length x.running - from in
        let all_long = long x.types x.running (declared_in x row) even in
        walk_end os so_far (from + n) (walk_over os so_far from rest n (λ j low high. settled_yes j (omega (arith, few, high, same)) (h j low (omega (arith, few, high, same)))))
        (omega (arith, all_long, few))
        ∙ sym (whole x.types x.running (declared_in x row) even)

-- ---- what is known once a row is said to fit

pub said_known : (s : Numbering) (old new : Rows) (row : ℕ) → row < length old.declared → AreKnown s old → IsSaidToFit old new row
    → list_answer (type_answer s.classes) (types_by s old.running) (types_by s (declared_row old row)) ≡ yes → AreKnown s new
said_known s old new row lt known said e =
    let even = known.even row lt in
    let all = all_fit s old.running (declared_row old row) even (sym (whole s old.running (declared_row old row) even) ∙ e) in
    record {
      running = subst (AreGiven s) (sym said.running) known.running;
      declared = λ other h. subst (λ rs. AreGiven s (get_or rs other [])) (sym said.declared) (known.declared other (subst (λ rs. other < length rs) said.declared h));
      even = λ other h.
          subst (λ rs. length (get_or rs other []) ≡ length new.running) (sym said.declared)
          (known.even other (subst (λ rs. other < length rs) said.declared h) ∙ ap length (sym said.running));
      known = truths_stay (fits s) (judgement s) old new row known.known said all;
    }
