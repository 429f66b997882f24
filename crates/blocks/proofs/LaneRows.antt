-- From eight lanes of two rows to the rows.
use Rattle.std.proofs.Common.{◌≡◌, ◌∙◌, ℕ, ◌+◌, ◌-◌, ◌<◌, ◌≤◌, Bool, true, false, List, get_or, sym, ap, ap₂, arith}
use Rattle.std.proofs.lemmas.Simd.{get_or-chunk}
use lib.Lanes.{chunk}
use Rattle.blocks.specs.Lanes.{AreDecidedLanes}

module _ (decided : ℕ → ℕ → Bool) (a b : List ℕ) (i r : ℕ) (h : AreDecidedLanes decided (chunk i 8 a) (chunk i 8 b) 8 r) where
  at_lane : (k : ℕ) → k < 8 → decided (get_or (chunk i 8 a) k 0) (get_or (chunk i 8 b) k 0) ≡ decided (get_or a (i + k) 0) (get_or b (i + k) 0)
  at_lane k lt = ap₂ decided (get_or-chunk i 8 a k 0 lt) (get_or-chunk i 8 b k 0 lt)

  pub before_in_rows : (k : ℕ) → i ≤ k → k < i + r → decided (get_or a k 0) (get_or b k 0) ≡ true
  before_in_rows k ahead to =
      let few = h.few in
      let back : i + (k - i) ≡ k = omega (arith, ahead) in
      ap (λ j. decided (get_or a j 0) (get_or b j 0)) (sym back) ∙ sym (at_lane (k - i) (omega (arith, ahead, to, few))) ∙ h.before (k - i) (omega (arith, ahead, to))

  pub stop_in_rows : r < 8 → decided (get_or a (i + r) 0) (get_or b (i + r) 0) ≡ false
  stop_in_rows lt = sym (at_lane r lt) ∙ h.stop lt
