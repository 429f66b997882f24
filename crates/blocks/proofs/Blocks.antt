-- From eight lanes of two blocks to the blocks.
use Rattle.std.proofs.Common.{◌≡◌, ◌∙◌, ℕ, ◌+◌, ◌<◌, ◌≤◌, Bool, true, false, eqb, ◌||◌, if◌then◌else◌, List, get_or, refl, inl, inr, arith}
use Rattle.std.proofs.lemmas.Bool.{cases_lt, false≢true}
use borrow.Author.Tests.{eqb-true}
use lib.Lanes.{chunk}
use Rattle.blocks.specs.Lanes.{is_decided_by, AreDecidedLanes}
use Rattle.blocks.specs.Rows.{is_decided}
use Rattle.blocks.specs.private.Blocks.{AreDecided, AreEqual, IsFirstLane}
use Rattle.blocks.proofs.LaneRows.{before_in_rows, stop_in_rows}

decides : (equal top : Bool) → (equal || top) ≡ (if top then true else equal)
decides true true = refl
decides true false = refl
decides false true = refl
decides false false = refl

-- Top is the mark, and every number fits it
by_top : (a b : ℕ) → is_decided a b ≡ is_decided_by 0 true a b
by_top a b = decides (eqb a b) (eqb b 0)

module _ (a b : List ℕ) (i r : ℕ) (h : AreDecidedLanes (is_decided_by 0 true) (chunk i 8 a) (chunk i 8 b) 8 r) where
  decided_on : (from : ℕ) → AreDecided a b from i → AreDecided a b from (i + r)
  decided_on from before k ahead to =
      elim (cases_lt k i) [
        | inl lt ↦ before k ahead lt
        | inr ge ↦ by_top (get_or a k 0) (get_or b k 0) ∙ before_in_rows (is_decided_by 0 true) a b i r h k ge to
      ]

  stops_on : r < 8 → is_decided (get_or a (i + r) 0) (get_or b (i + r) 0) ≡ false
  stops_on lt = by_top (get_or a (i + r) 0) (get_or b (i + r) 0) ∙ stop_in_rows (is_decided_by 0 true) a b i r h lt

module _ (a b : List ℕ) (from r : ℕ) (low : from ≤ 8) (h : AreDecidedLanes (is_decided_by 0 true) (chunk from 8 a) (chunk from 8 b) 8 r) where
  up_to : AreDecided a b from (from + r)
  up_to = decided_on a b from r h from (λ k ahead to. absurd (omega (arith, ahead, to)))

  pub in_the_first_eight : r < 8 → IsFirstLane a b from (from + r)
  in_the_first_eight less =
      record {
        few = omega (arith, low, less);
        ahead = omega arith;
        decided = up_to;
        stop = λ _. stops_on a b from r h less;
      }

  pub in_the_last_eight : 8 ≤ r → (last : ℕ) → AreDecidedLanes (is_decided_by 0 true) (chunk 8 8 a) (chunk 8 8 b) 8 last → IsFirstLane a b from (8 + last)
  in_the_last_eight all last behind =
      let few = behind.few in
      record {
        few = omega (arith, few);
        ahead = omega (arith, low);
        decided = decided_on a b 8 last behind from (λ k ahead to. up_to k ahead (omega (arith, all, to)));
        stop = λ less. stops_on a b 8 last behind (omega (arith, less));
      }

equal_where : (t : Bool) (a b : ℕ) → (if t then false else eqb a b) ≡ true → a ≡ b
equal_where true a b h = absurd (false≢true h)
equal_where false a b h = eqb-true a b h

equal_by : (mark a b : ℕ) → is_decided_by mark false a b ≡ true → a ≡ b
equal_by mark a b h = equal_where (eqb b mark) a b h

module _ (mark : ℕ) (a b : List ℕ) (from r : ℕ) (h : AreDecidedLanes (is_decided_by mark false) (chunk from 8 a) (chunk from 8 b) 8 r) where
  pub equal_on : AreEqual a b from (from + r)
  equal_on k ahead to = equal_by mark (get_or a k 0) (get_or b k 0) (before_in_rows (is_decided_by mark false) a b from r h k ahead to)
