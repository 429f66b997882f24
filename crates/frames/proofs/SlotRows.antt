-- From eight slots of two rows to the rows.
use Rattle.std.proofs.Common.{◌≡◌, ◌∙◌, ℕ, ◌+◌, ◌<◌, Bool, true, false, not, eqb, ◌||◌, if◌then◌else◌, List, get_or, refl, ap, inl, inr}
use Rattle.std.proofs.lemmas.Bool.{cases_lt}
use lib.Lanes.{chunk}
use Rattle.blocks.specs.Lanes.{is_decided_by, AreDecidedLanes}
use Rattle.blocks.proofs.LaneRows.{before_in_rows, stop_in_rows}
use Rattle.frames.specs.Packing.{absent_slot}
use Rattle.frames.specs.Undecided.{is_undecided, AreDecided}

decides : (equal absent : Bool) → (not equal || absent) ≡ not (if absent then false else equal)
decides true true = refl
decides true false = refl
decides false true = refl
decides false false = refl

-- the slot of absent classes is the mark, and no slot fits it by itself
by_absent : (a b : ℕ) → is_undecided a b ≡ not (is_decided_by absent_slot false a b)
by_absent a b = decides (eqb a b) (eqb b absent_slot)

module _ (a b : List ℕ) (i r : ℕ) (h : AreDecidedLanes (is_decided_by absent_slot false) (chunk i 8 a) (chunk i 8 b) 8 r) where
  pub decided_on : (from : ℕ) → AreDecided a b from i → AreDecided a b from (i + r)
  decided_on from before k ahead to =
      elim (cases_lt k i) [
        | inl lt ↦ before k ahead lt
        | inr ge ↦ by_absent (get_or a k 0) (get_or b k 0) ∙ ap not (before_in_rows (is_decided_by absent_slot false) a b i r h k ge to)
      ]

  pub stops_on : r < 8 → is_undecided (get_or a (i + r) 0) (get_or b (i + r) 0) ≡ true
  stops_on lt = by_absent (get_or a (i + r) 0) (get_or b (i + r) 0) ∙ ap not (stop_in_rows (is_decided_by absent_slot false) a b i r h lt)
