-- Rows for which a class is missing: what so many of their first places tell.
use Rattle.std.proofs.Common.{◌≡◌, ◌≢◌, ◌⊎◌, ◌∙◌, ℕ, zero, suc, ◌+◌, ◌-◌, ◌<◌, ◌≤◌, List, [], ◌∷◌, ◌++◌, Option, Some, None, Result, Ok, Err, OnOk, OnErr, length, drop, slice_get, get_or, refl, sym, ap, subst, inl, inr, arith}
use Rattle.std.specs.Prelude.{IfSome}
use Rattle.std.proofs.lemmas.Bool.{cases_lt}
use Rattle.std.proofs.lemmas.List.{get_or_append_left, length-append}
use Rattle.std.proofs.lemmas.Option.{slice_get_within}
use Rattle.hierarchy.specs.Answer.{Outcome, yes, no, missing, outcome_of}
use Rattle.hierarchy.specs.declared.answer.Answer.{Answer}
use Rattle.hierarchy.specs.declared.answer.Answer.TheVariants.{Yes, No, Missing}
use Rattle.hierarchy.proofs.Names.{same_some}
use Rattle.frames.specs.Assignable.{type_answer}
use Rattle.frames.specs.FrameAssignable.{both, list_answer}
use Rattle.frames.specs.PackedFrames.{joined}
use Rattle.frames.proofs.Frames.{RowAnswer, row_holds}
use Rattle.frames.proofs.PlaceAnswers.{walk_on, walk_over}
use Rattle.type_numbers.specs.Numbers.{Numbering}
use Rattle.type_numbers.specs.Decoding.{type_by, types_by}
use Rattle.blocks.specs.Rows.{Rows, declared_row}
use Rattle.method_frames.specs.private.TypeRows.{row_answers, answer_for, FitsUpTo, IsUnfit, Lacks, IsLacking}
use Rattle.method_frames.specs.declared.type_rows.Lacking.{Lacking}
use Rattle.method_frames.specs.NumberedRows.{NumberedRows, declared_in}
use Rattle.method_frames.specs.private.KnownRows.{AreKnown}
use Rattle.method_frames.proofs.Answering.{whole, at, long}
use Rattle.method_frames.proofs.Knowing.{view_of}

pub missing_not_yes : (name : List ℕ) → missing name ≢ yes
missing_not_yes name e = cc

pub yes_alone : (answer : Answer) → (answer ≡ Yes → ⊥) → outcome_of answer ≢ yes
yes_alone Yes h e = h refl
yes_alone No h e = cc
yes_alone (Missing name) h e = cc

pub both_left : (a b : Outcome) → both a b ≡ yes → a ≡ yes
both_left yes b e = refl
both_left no b e = e
both_left (missing name) yes e = e
both_left (missing name) no e = cc
both_left (missing name) (missing _) e = e

-- ---- two rows for which a class is missing

module _ (s : Numbering) (xs ys : List ℕ) (even : length ys ≡ length xs) (name : List ℕ) (is : joined (row_answers s xs ys) ≡ missing name) where
  abbrev os : List Outcome
  os = row_answers s xs ys

  all : RowAnswer os (missing name)
  all = subst (RowAnswer os) is (row_holds os)

  read : (k : ℕ) (r : Outcome) → k < length xs → slice_get os k ≡ Some r → answer_for s xs ys k ≡ r
  read k r lt e = same_some (at s xs ys even k lt) e

  first_inside : all.1.0 < length xs
  first_inside = let count = long s xs ys even in let lt = slice_get_within os all.1.0 (missing name) all.1.1 in omega (arith, lt, count)

  first_here : answer_for s xs ys all.1.0 ≡ missing name
  first_here = read all.1.0 (missing name) first_inside all.1.1

  pub lacks : (end : ℕ) → IsUnfit s xs ys end → Lacks s xs ys end name
  lacks end u = record {
    within = u.within;
    place = all.1.0;
    last = by (cases_lt u.place all.1.0) (cases_lt all.1.0 u.place);
    here = first_here;
    before = λ k lt. let inside = first_inside in read k yes (omega (arith, lt, inside)) (all.1.2 k lt);
    free = λ k lt e. all.0 k (at s xs ys even k lt ∙ ap Some e);
  }
    where
      by : (u.place < all.1.0) ⊎ (all.1.0 ≤ u.place) → (all.1.0 < u.place) ⊎ (u.place ≤ all.1.0) → all.1.0 + 1 ≡ end
      by (inl lt) _ = let inside = first_inside in absurd (u.here (read u.place yes (omega (arith, lt, inside)) (all.1.2 u.place lt)))
      by (inr le) (inl lt) = absurd (missing_not_yes name (sym first_here ∙ u.before all.1.0 lt))
      by (inr le) (inr ge) = let last = u.last in omega (arith, le, ge, last)

-- ---- rows that have first places in common

kept_missing : (name : List ℕ) (r : Outcome) → r ≢ no → both (missing name) r ≡ missing name
kept_missing name yes h = refl
kept_missing name no h = absurd (h refl)
kept_missing name (missing other) h = refl

-- an answer of a missing class stays through places that are not refused
stays : (rs : List Outcome) (name : List ℕ) (k n : ℕ) → joined rs ≡ both (missing name) (joined (drop k rs))
    → ((j : ℕ) → j < k + n → (r : Outcome) × (slice_get rs j ≡ Some r) × (r ≢ no)) → joined rs ≡ both (missing name) (joined (drop (k + n) rs))
stays rs name k zero e free = let same : k ≡ k + 0 = omega arith in e ∙ ap (λ j. both (missing name) (joined (drop j rs))) same
stays rs name k (suc n) e free =
    let same : (k + 1) + n ≡ k + suc n = omega arith in
    let here = free k (omega arith) in
    let on = walk_on rs (missing name) k e here.0 here.1 ∙ ap (λ r. both r (joined (drop (k + 1) rs))) (kept_missing name here.0 here.2) in
    stays rs name (k + 1) n on (λ j lt. free j (omega (arith, lt))) ∙ ap (λ j. both (missing name) (joined (drop j rs))) same

module _ (s : Numbering) (xs ys zs : List ℕ) (even : length zs ≡ length xs) (end count : ℕ) (name : List ℕ) (l : Lacks s xs ys end name)
    (le : end ≤ count) (within : count ≤ length xs) (same : (k : ℕ) → k < count → get_or ys k 0 ≡ get_or zs k 0) where
  abbrev others : List Outcome
  others = row_answers s xs zs

  alike : (k : ℕ) → k < count → answer_for s xs zs k ≡ answer_for s xs ys k
  alike k lt = ap (λ m. type_answer s.classes (type_by s (get_or xs k 0)) (type_by s m)) (sym (same k lt))

  there : (k : ℕ) → k < count → slice_get others k ≡ Some (answer_for s xs ys k)
  there k lt = at s xs zs even k (omega (arith, lt, within)) ∙ ap Some (alike k lt)

  first_low : l.place < count
  first_low = let last = l.last in omega (arith, last, le)

  pub unfit_too : IsUnfit s xs zs end
  unfit_too = record {
    within = l.within;
    place = l.place;
    last = l.last;
    here = λ e. missing_not_yes name (sym l.here ∙ sym (alike l.place first_low) ∙ e);
    before = λ k lt. let low = first_low in alike k (omega (arith, lt, low)) ∙ l.before k lt;
  }

  to_first : joined others ≡ both yes (joined (drop l.place others))
  to_first =
      let low = first_low in
      let start : 0 + l.place ≡ l.place = omega arith in
      walk_over others yes 0 refl l.place (λ j from lt. there j (omega (arith, lt, low)) ∙ ap Some (l.before j (omega (arith, lt))))
      ∙ ap (λ j. both yes (joined (drop j others))) start

  past_first : joined others ≡ both (missing name) (joined (drop (l.place + 1) others))
  past_first = walk_on others yes l.place to_first (missing name) (there l.place first_low ∙ ap Some l.here)

  pub lacking_too : joined others ≡ both (missing name) (joined (drop count others))
  lacking_too =
      let low = first_low in
      let n = count - (l.place + 1) in
      let whole : (l.place + 1) + n ≡ count = omega (arith, low) in
      stays others name (l.place + 1) n past_first (λ j lt. (answer_for s xs ys j, there j (omega (arith, lt, whole)), l.free j (omega (arith, lt, whole, within))))
      ∙ ap (λ j. both (missing name) (joined (drop j others))) whole

-- rows that have fewer first places in common
module _ (s : Numbering) (xs ys zs : List ℕ) (even : length zs ≡ length xs) (end count : ℕ) (name : List ℕ) (l : Lacks s xs ys end name)
    (lt : count < end) (within : count ≤ length xs) (same : (k : ℕ) → k < count → get_or ys k 0 ≡ get_or zs k 0) where
  pub fits_too : FitsUpTo s xs zs count
  fits_too k less =
      let last = l.last in
      ap (λ m. type_answer s.classes (type_by s (get_or xs k 0)) (type_by s m)) (sym (same k less)) ∙ l.before k (omega (arith, less, lt, last))

  pub fitting_too : joined (row_answers s xs zs) ≡ both yes (joined (drop count (row_answers s xs zs)))
  fitting_too =
      let start : 0 + count ≡ count = omega arith in
      walk_over (row_answers s xs zs) yes 0 refl count (λ j from low. at s xs zs even j (omega (arith, low, start, within)) ∙ ap Some (fits_too j (omega (arith, low, start))))
      ∙ ap (λ j. both yes (joined (drop j (row_answers s xs zs)))) start

module _ (s : Numbering) (rows : Rows) (x : NumberedRows) (is : view_of s rows ≡ x) (known : AreKnown s rows) (noted : Option Lacking) (holds : IfSome noted (IsLacking s rows))
    (l : Lacking) (some : noted ≡ Some l) (row : ℕ) (r : row < length x.declared) (count : ℕ) (within : count ≤ length x.running)
    (same : (k : ℕ) → k < count → get_or (declared_in x l.row) k 0 ≡ get_or (declared_in x row) k 0) where
  noted_lacks : Lacks s rows.running (declared_row rows l.row) l.end l.name.now
  noted_lacks = let h = subst (λ o. IfSome o (IsLacking s rows)) some holds in h.lacks

  even : length (declared_row rows row) ≡ length rows.running
  even = known.even row (subst (λ y. row < length y.declared) (sym is) r)

  inside : count ≤ length rows.running
  inside = subst (λ y. count ≤ length y.running) (sym is) within

  common : (k : ℕ) → k < count → get_or (declared_row rows l.row) k 0 ≡ get_or (declared_row rows row) k 0
  common = subst (λ y. (k : ℕ) → k < count → get_or (declared_in y l.row) k 0 ≡ get_or (declared_in y row) k 0) (sym is) same

  pub start_fits : count < l.end → FitsUpTo x.types x.running (declared_in x row) count
  start_fits lt =
      subst (λ y. FitsUpTo y.types y.running (declared_in y row) count) is
      (fits_too s rows.running (declared_row rows l.row) (declared_row rows row) even l.end count l.name.now noted_lacks lt inside common)

  pub start_fitting : count < l.end → joined (row_answers x.types x.running (declared_in x row)) ≡ both yes (joined (drop count (row_answers x.types x.running (declared_in x row))))
  start_fitting lt =
      subst (λ y. joined (row_answers y.types y.running (declared_in y row)) ≡ both yes (joined (drop count (row_answers y.types y.running (declared_in y row))))) is
      (fitting_too s rows.running (declared_row rows l.row) (declared_row rows row) even l.end count l.name.now noted_lacks lt inside common)

  pub start_lacks : l.end ≤ count → joined (row_answers x.types x.running (declared_in x row)) ≡ both (missing l.name.now) (joined (drop count (row_answers x.types x.running (declared_in x row))))
  start_lacks le =
      subst (λ y. joined (row_answers y.types y.running (declared_in y row)) ≡ both (missing l.name.now) (joined (drop count (row_answers y.types y.running (declared_in y row))))) is
      (lacking_too s rows.running (declared_row rows l.row) (declared_row rows row) even l.end count l.name.now noted_lacks le inside common)

  pub end_unfit : l.end ≤ count → IsUnfit x.types x.running (declared_in x row) l.end
  end_unfit le =
      subst (λ y. IsUnfit y.types y.running (declared_in y row) l.end) is
      (unfit_too s rows.running (declared_row rows l.row) (declared_row rows row) even l.end count l.name.now noted_lacks le inside common)

-- a class is missing for a row
module _ (s : Numbering) (rows : Rows) (x : NumberedRows) (is : view_of s rows ≡ x) (known : AreKnown s rows) (row : ℕ) (r : row < length x.declared) (name : List ℕ)
    (e : missing name ≡ list_answer (type_answer x.types.classes) (types_by x.types x.running) (types_by x.types (declared_in x row))) where
  pub row_within : row < length rows.declared
  row_within = subst (λ y. row < length y.declared) (sym is) r

  told : joined (row_answers s rows.running (declared_row rows row)) ≡ missing name
  told =
      sym (whole s rows.running (declared_row rows row) (known.even row row_within))
      ∙ sym (subst (λ y. missing name ≡ list_answer (type_answer y.types.classes) (types_by y.types y.running) (types_by y.types (declared_in y row))) (sym is) e)

  pub row_lacks : (end : ℕ) → IsUnfit x.types x.running (declared_in x row) end → Lacks s rows.running (declared_row rows row) end name
  row_lacks end u =
      lacks s rows.running (declared_row rows row) (known.even row row_within) name told end (subst (λ y. IsUnfit y.types y.running (declared_in y row) end) (sym is) u)

-- ---- what is noted stays

pub stays_lacking : (s : Numbering) (old new : Rows) (x : Option Lacking) → new.running ≡ old.running → length old.declared ≤ length new.declared
    → ((row : ℕ) → row < length old.declared → declared_row new row ≡ declared_row old row) → IfSome x (IsLacking s old) → IfSome x (IsLacking s new)
stays_lacking s old new None running more same h = tt
stays_lacking s old new (Some x) running more same h =
    let row = h.row in
    record {
      row = omega (arith, row, more);
      lacks = subst (λ ys. Lacks s new.running ys x.end x.name.now) (sym (same x.row row)) (subst (λ xs. Lacks s xs (declared_row old x.row) x.end x.name.now) (sym running) h.lacks);
    }

pub declared_lacking : {R E : Type 0} (s : Numbering) (old new : Rows) (r : Result R E) (x : Option Lacking) → IfSome x (IsLacking s old)
    → OnOk r (new ≡ record old { declared = old.declared ++ old.running ∷ [] }) → OnErr r (new ≡ old) → IfSome x (IsLacking s new)
declared_lacking s old new (Ok u) x h ok err =
    let more = length-append old.declared (old.running ∷ []) in
    subst (λ rows. IfSome x (IsLacking s rows)) (sym ok)
    (stays_lacking s old (record old { declared = old.declared ++ old.running ∷ [] }) x refl (omega (arith, more)) (λ row lt. get_or_append_left old.declared (old.running ∷ []) [] row lt) h)
declared_lacking s old new (Err e) x h ok err = subst (λ rows. IfSome x (IsLacking s rows)) (sym err) h

pub keeping_lacking : (s : Numbering) (old new : Rows) (x : Option Lacking) → new ≡ record old { kept = old.running } → IfSome x (IsLacking s old) → IfSome x (IsLacking s new)
keeping_lacking s old new x e h = stays_lacking s old new x (ap (λ rs. rs.running) e) (let same = ap (λ rs. length rs.declared) e in omega (arith, same)) (λ row lt. ap (λ rs. get_or rs.declared row []) e) h

pub noted_lacking : (s : Numbering) (old new : Rows) (x : Option Lacking) → new.running ≡ old.running → new.declared ≡ old.declared → IfSome x (IsLacking s old) → IfSome x (IsLacking s new)
noted_lacking s old new x running declared h =
    stays_lacking s old new x running (let same = ap length declared in omega (arith, same)) (λ row lt. ap (λ ds. get_or ds row []) declared) h
