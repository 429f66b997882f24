-- Items as they are written to a row, and read from one.
use Rattle.std.proofs.Common.{◌≡◌, ◌∙◌, ℕ, ◌+◌, ◌<◌, ◌≤◌, List, [], ◌∷◌, length, set, take, get_or, reverse, refl, sym, ap, inl, inr, arith}
use Rattle.std.proofs.lemmas.Bool.{cases_eq}
use Rattle.std.proofs.lemmas.List.{length-set, get_or-set_same, get_or-set_other, take_more, reverse-append}
use Rattle.method_frames.specs.NumberedRows.{NumberedRows}
use Rattle.method_frames.specs.private.Stacks.{Changes, Holds}

pub no_change : (from to : ℕ) (rows : NumberedRows) → Changes from to rows rows
no_change from to rows = record { rest = refl; even = refl; below = λ k lt. refl; above = λ k le. refl }

pub holds_none : (items : List ℕ) (from : ℕ) (rows : NumberedRows) → Holds items from from rows
holds_none items from rows = record { here = λ k le lt. absurd (omega (arith, le, lt)) }

module _ (from to place n : ℕ) (old mid new : NumberedRows) (e : new ≡ record mid { running = set mid.running place n }) where
  row : new.running ≡ set mid.running place n
  row = ap (λ x. x.running) e

  at_other : (k : ℕ) → (k ≡ place → ⊥) → get_or new.running k 0 ≡ get_or mid.running k 0
  at_other k ne = ap (λ r. get_or r k 0) row ∙ get_or-set_other mid.running place k n 0 ne

  pub changes_set : from ≤ place → place < to → Changes from to old mid → Changes from to old new
  changes_set low high c = record {
    rest = e ∙ ap {A = NumberedRows} {B = NumberedRows} (λ m. record m { running = set mid.running place n }) c.rest ∙ ap {B = NumberedRows} (λ r. record old { running = r }) (sym row);
    even = ap length row ∙ length-set mid.running place n ∙ c.even;
    below = λ k lt. at_other k (λ q. omega (arith, q, lt, low)) ∙ c.below k lt;
    above = λ k le. at_other k (λ q. omega (arith, q, le, high)) ∙ c.above k le;
  }

  pub holds_set : (items : List ℕ) → place < length mid.running → n ≡ get_or (reverse items) place 0 → Holds items from place mid → Holds items from (place + 1) new
  holds_set items inside at h = record {
    here = λ k le lt. elim (cases_eq k place) [
      | inl q ↦ ap (λ j. get_or new.running j 0) q ∙ ap (λ r. get_or r place 0) row ∙ get_or-set_same mid.running place n 0 inside ∙ at ∙ ap (λ j. get_or (reverse items) j 0) (sym q)
      | inr ne ↦ at_other k ne ∙ h.here k le (omega (arith, lt, ne))
    ];
  }

-- one more item is read
pub read_more : (row : List ℕ) (place n : ℕ) (old new : List ℕ) → place < length row → old ≡ reverse (take place row) → n ≡ get_or row place 0 → new ≡ n ∷ old
    → new ≡ reverse (take (place + 1) row)
read_more row place n old new lt e at pushed =
    pushed ∙ ap (λ xs. n ∷ xs) e ∙ ap (λ m. m ∷ reverse (take place row)) at
    ∙ sym (reverse-append (take place row) (get_or row place 0 ∷ []))
    ∙ ap reverse (sym (take_more row place 0 lt))
