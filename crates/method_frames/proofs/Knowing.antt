-- The rows of a method, as they are known and as they change.
use Rattle.std.proofs.Common.{◌≡◌, ◌∙◌, ℕ, ◌+◌, ◌<◌, List, [], ◌∷◌, ◌++◌, length, replicate, set, get_or, refl, sym, subst, inl, inr, arith}
use Rattle.std.specs.Prelude.{Contains}
use Rattle.std.proofs.lemmas.Bool.{cases_lt}
use Rattle.std.proofs.lemmas.List.{length-set, length-append, get_or_append_left, get_or_push}
use Rattle.blocks.specs.Rows.{Rows, declared_row}
use Rattle.type_numbers.specs.Numbers.{Numbering, IsGiven}
use Rattle.method_frames.specs.NumberedRows.{NumberedRows}
use Rattle.method_frames.specs.private.KnownRows.{AreGiven, AreKnown}
use Rattle.method_frames.proofs.Given.{tops_given, set_given}

abbrev pub view_of : Numbering → Rows → NumberedRows
view_of s rows = record { types = s; running = rows.running; declared = rows.declared; kept = rows.kept }

module _ (s : Numbering) (rows : Rows) (x : NumberedRows) (is : view_of s rows ≡ x) (known : AreKnown s rows) where
  pub running_given : (place n : ℕ) → place < length x.running → n ≡ get_or rows.running place 0 → IsGiven s n
  running_given place n lt e =
      let inside = subst (λ y. place < length y.running) (sym is) lt in
      subst (IsGiven s) (sym e) (known.running place inside)

  pub declared_given : (row place n : ℕ) → row < length x.declared → place < length x.running → n ≡ get_or (declared_row rows row) place 0 → IsGiven s n
  declared_given row place n r lt e =
      let within = subst (λ y. row < length y.declared) (sym is) r in
      let inside = subst (λ y. place < length y.running) (sym is) lt in
      let even = known.even row within in
      subst (IsGiven s) (sym e) (known.declared row within place (omega (arith, even, inside)))

  pub declared_even : (row : ℕ) → row < length x.declared → length (get_or x.declared row []) ≡ length x.running
  declared_even row r = subst (λ y. length (get_or y.declared row []) ≡ length y.running) is (known.even row (subst (λ y. row < length y.declared) (sym is) r))

-- ---- changes

pub none_held : {P : Type 0} {x : ℕ × ℕ} → Contains [] x → P
none_held h = let lt = h.1 in absurd (omega (arith, lt))

pub tops_known : (s : Numbering) (count : ℕ) → AreKnown s (record { running = replicate count 0; declared = []; kept = replicate count 0; known = [] })
tops_known s count = record {
  running = tops_given s count;
  declared = λ row lt. absurd (omega (arith, lt));
  even = λ row lt. absurd (omega (arith, lt));
  known = λ a b h. none_held h;
}

pub put_known : (s : Numbering) (rows : Rows) (place n : ℕ) → AreKnown s rows → IsGiven s n → AreKnown s (record rows { running = set rows.running place n })
put_known s rows place n known given = record {
  running = set_given s rows.running place n known.running given;
  declared = known.declared;
  even = λ row lt. known.even row lt ∙ sym (length-set rows.running place n);
  known = known.known;
}

pub taken_known : (s : Numbering) (rows : Rows) (row : ℕ) → row < length rows.declared → AreKnown s rows → AreKnown s (record rows { running = declared_row rows row })
taken_known s rows row lt known = record {
  running = known.declared row lt;
  declared = known.declared;
  even = λ other h. known.even other h ∙ sym (known.even row lt);
  known = known.known;
}

module _ (s : Numbering) (rows : Rows) (known : AreKnown s rows) where
  abbrev more : List (List ℕ)
  more = rows.declared ++ rows.running ∷ []

  pub at_more : (row : ℕ) → row < length more → (P : List ℕ → Type 0) → ((k : ℕ) → k < length rows.declared → P (get_or rows.declared k [])) → P rows.running → P (get_or more row [])
  at_more row lt P old new =
      let long : length more ≡ length rows.declared + 1 = length-append rows.declared (rows.running ∷ []) in
      elim (cases_lt row (length rows.declared)) [
        | inl h ↦ subst P (sym (get_or_append_left rows.declared (rows.running ∷ []) [] row h)) (old row h)
        | inr h ↦ subst P (sym (get_or_push rows.declared rows.running [] row (omega (arith, long, lt, h)))) new
      ]

  pub declared_known : AreKnown s (record rows { declared = more })
  declared_known = record {
    running = known.running;
    declared = λ row lt. at_more row lt (AreGiven s) known.declared known.running;
    even = λ row lt. at_more row lt (λ ns. length ns ≡ length rows.running) known.even refl;
    known = known.known;
  }

-- ---- by what a call says
