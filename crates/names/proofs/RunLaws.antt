-- From the mask of a load, and of the load one byte before it, to how far class names go on.
use Rattle.std.proofs.Common.{◌≡◌, ℕ, ◌+◌, ◌-◌, ◌*◌, ◌/◌, ◌%◌, ◌^◌, ◌<◌, ◌≤◌, Bool, true, false, ◌||◌, eqb, cond, List, [], ◌∷◌, map, length, get_or, Fits, w8, w64, bit_or, bit_and, refl, sym, ap, ◌∙◌, subst, arith, inl, inr}
use Rattle.std.proofs.lemmas.Bool.{agree_below, agree_below_at, cases_lt}
use Rattle.std.proofs.lemmas.Simd.{mask_l-mod, mask_l-lt, bit_mask_l, length-chunk, get_or-chunk, get_or-zip2, length-zip2}
use Rattle.std.proofs.lemmas.List.{length-map, get_or-map}
use Rattle.std.proofs.lemmas.Nat.{shr-shr, shr_le, shr_split}
use Rattle.std.proofs.lemmas.Nat.Bits.{bit_at-zero, bit_at_above, bit_at-trailing_zeros, bit_at_or, bit_at_cat_low, bit_at_cat_high}
use Rattle.std.specs.Int.{bit_at, trailing_zeros}
use Rattle.std.specs.Prelude.{max}
use native.Mathlib.Nat.{one-le-pow}
use lib.Lanes.{chunk, zip2, mask_l, top}
use Rattle.names.specs.Names.{slash}
use Rattle.names.specs.Reading.{goes_on}
use Rattle.names.specs.private.TypeEnds.{goes_on_at, AreStops, AreStopsUpTo, GoesOnUpTo}

-- an operation on a vector that was computed lane by lane from xs, and on two of which one was from ys
paired : (f h : ℕ → ℕ → ℕ) (g k l : ℕ → ℕ) (xs ys : List ℕ) → zip2 f (map g xs) (zip2 h (map k xs) (map l ys)) ≡ zip2 (λ x y. f (g x) (h (k x) (l y))) xs ys
paired f h g k l [] ys = refl
paired f h g k l (x ∷ xs) [] = refl
paired f h g k l (x ∷ xs) (y ∷ ys) = ap (λ r. f (g x) (h (k x) (l y)) ∷ r) (paired f h g k l xs ys)

pub paired_of : (f h : ℕ → ℕ → ℕ) (g k l : ℕ → ℕ) (xs ys : List ℕ) {us vs ws : List ℕ} → us ≡ map g xs → vs ≡ map k xs → ws ≡ map l ys → zip2 f us (zip2 h vs ws) ≡ zip2 (λ x y. f (g x) (h (k x) (l y))) xs ys
paired_of f h g k l xs ys a b c = (λ i. zip2 f (a i) (zip2 h (b i) (c i))) ∙ paired f h g k l xs ys

-- all bits of a lane where it is this byte
abbrev pub is_lane : ℕ → ℕ → ℕ
is_lane b x = cond (eqb x b) 255 0

abbrev pub others : ℕ → ℕ
others x = bit_or (bit_or (is_lane 46 x) (is_lane 59 x)) (is_lane 91 x)

-- the lane of a byte after the other
abbrev pub stop : ℕ → ℕ → ℕ
stop x y = bit_or (others x) (bit_and (is_lane 47 x) (is_lane 47 y))

tested : (c : Bool) → agree_below (λ x. top 7 (bit_or (others x) (bit_and (is_lane 47 x) (cond c 255 0))) || goes_on c x) (λ _. true) 256 ≡ true
tested true = refl
tested false = refl

no_stop : (x y : ℕ) → x < 256 → top 7 (stop x y) ≡ false → goes_on (eqb y slash) x ≡ true
no_stop x y small off =
    sym (ap (λ b. b || goes_on (eqb y slash) x) off)
    ∙ agree_below_at (λ x. top 7 (bit_or (others x) (bit_and (is_lane 47 x) (cond (eqb y slash) 255 0))) || goes_on (eqb y slash) x) (λ _. true) 256 x (tested (eqb y slash)) small

module _ (bytes : List ℕ) (at mask : ℕ) (behind : 1 ≤ at) (room : at + 16 ≤ length bytes) (z : List ℕ)
    (lanes : z ≡ zip2 stop (chunk at 16 bytes) (chunk (at - 1) 16 bytes)) (is : mask ≡ mask_l (map (top 7) z) % 2 ^ 64) where
  here : length (chunk at 16 bytes) ≡ 16
  here = length-chunk at 16 bytes room

  before : length (chunk (at - 1) 16 bytes) ≡ 16
  before = length-chunk (at - 1) 16 bytes (omega (arith, room))

  long : length z ≡ 16
  long = ap length lanes ∙ length-zip2 stop (chunk at 16 bytes) (chunk (at - 1) 16 bytes) (here ∙ sym before) ∙ here

  all_bits : length (map (top 7) z) ≡ 16
  all_bits = length-map z (top 7) ∙ long

  whole : mask ≡ mask_l (map (top 7) z)
  whole = is ∙ mask_l-mod (map (top 7) z) 64 (omega (arith, all_bits))

  pub mask_is_small : mask < 2 ^ 16
  mask_is_small = subst (λ n. mask < 2 ^ n) all_bits (subst (λ m. m < 2 ^ length (map (top 7) z)) (sym whole) (mask_l-lt (map (top 7) z)))

  unset : (b : Bool) → (let n : ℕ = cond b 1 0 in n) ≡ 0 → b ≡ false
  unset true e = absurd (omega (arith, e))
  unset false e = refl

  lane_at : (k : ℕ) → k < 16 → get_or (map (top 7) z) k false ≡ top 7 (stop (get_or bytes (at + k) 0) (get_or bytes ((at - 1) + k) 0))
  lane_at k lt =
      get_or-map (top 7) z k 0 false (omega (arith, long))
      ∙ ap (λ l. top 7 (get_or l k 0)) lanes
      ∙ ap (top 7) (get_or-zip2 stop (chunk at 16 bytes) (chunk (at - 1) 16 bytes) k 0 0 0 (omega (arith, here)) (omega (arith, before)))
      ∙ (λ i. top 7 (stop (get_or-chunk at 16 bytes k 0 lt i) (get_or-chunk (at - 1) 16 bytes k 0 lt i)))

  pub mask_stops : ((k : ℕ) → Fits w8 (get_or bytes k 0)) → AreStops bytes at 16 mask
  mask_stops fits k lt off =
      let bit = sym (bit_mask_l (map (top 7) z) k) ∙ ap (λ m. bit_at m k) (sym whole) ∙ off in
      let place : (at - 1) + k ≡ (at + k) - 1 = omega (arith, behind) in
      let lane : top 7 (stop (get_or bytes (at + k) 0) (get_or bytes ((at - 1) + k) 0)) ≡ false = sym (lane_at k lt) ∙ unset _ bit in
      no_stop (get_or bytes (at + k) 0) (get_or bytes ((at + k) - 1) 0) (fits (at + k)).fits (ap (λ p. top 7 (stop (get_or bytes (at + k) 0) (get_or bytes p 0))) (sym place) ∙ lane)

-- ---- from place to place

pub go_on : (bytes : List ℕ) (start at n : ℕ) → GoesOnUpTo bytes start at → at + n ≤ length bytes → ((k : ℕ) → k < n → goes_on_at bytes (at + k) ≡ true) → GoesOnUpTo bytes start (at + n)
go_on bytes start at n so_far within more =
    let ordered = so_far.ordered in
    record {
      ordered = omega (arith, ordered);
      within = within;
      goes = λ k from to. elim (cases_lt k at) [
        | inl less ↦ so_far.goes k from less
        | inr later ↦ (let back : at + (k - at) ≡ k = omega (arith, later) in subst (λ p. goes_on_at bytes p ≡ true) back (more (k - at) (omega (arith, later, to))))
      ];
    }

shifted_bit : (bytes : List ℕ) (from skip mask k : ℕ) → AreStops bytes from 16 mask → skip + k < 16 → bit_at (mask / 2 ^ skip) k ≡ 0 → goes_on_at bytes ((from + skip) + k) ≡ true
shifted_bit bytes from skip mask k stops lt off =
    let place : from + (skip + k) ≡ (from + skip) + k = omega arith in
    subst (λ p. goes_on_at bytes p ≡ true) place (stops (skip + k) lt (sym (ap (λ n. n % 2) (shr-shr mask skip k)) ∙ off))

module _ (bytes : List ℕ) (start at from mask : ℕ) (so_far : GoesOnUpTo bytes start at) (ordered : from ≤ at) (near : at ≤ from + 16) (room : from + 16 ≤ length bytes)
    (small : mask < 2 ^ 16) (stops : AreStops bytes from 16 mask) where
  goes : (k : ℕ) → (at - from) + k < 16 → bit_at (mask / 2 ^ (at - from)) k ≡ 0 → goes_on_at bytes (at + k) ≡ true
  goes k lt off =
      let back : from + (at - from) ≡ at = omega (arith, ordered) in
      subst (λ p. goes_on_at bytes (p + k) ≡ true) back (shifted_bit bytes from (at - from) mask k stops lt off)

  pub past_all : mask / 2 ^ (at - from) ≡ 0 → GoesOnUpTo bytes start (from + 16)
  past_all none =
      let whole : at + (16 - (at - from)) ≡ from + 16 = omega (arith, ordered, near) in
      subst (GoesOnUpTo bytes start) whole
      (go_on bytes start at (16 - (at - from)) so_far (omega (arith, whole, room)) (λ k lt. goes k (omega (arith, lt)) (ap (λ n. bit_at n k) none ∙ bit_at-zero k)))

  pub up_to_stop : 0 < mask / 2 ^ (at - from) → GoesOnUpTo bytes start (at + trailing_zeros w64 (mask / 2 ^ (at - from)))
  up_to_stop some =
      let skip = at - from in
      let rest = mask / 2 ^ skip in
      let t = bit_at-trailing_zeros w64 rest some (omega (arith, small, shr_le mask skip)) in
      let n = trailing_zeros w64 rest in
      let lt : skip + n < 16 =
      (elim (cases_lt (skip + n) 16) [
        | inl less ↦ less
        | inr more ↦ (let set : 1 ≡ 0 = sym t.1 ∙ ap (λ m. m % 2) (shr-shr mask skip n) ∙ bit_at_above mask 16 (skip + n) small more in absurd (omega (arith, set)))
      ]) in
      go_on bytes start at n so_far (omega (arith, lt, room, ordered)) (λ k less. goes k (omega (arith, lt, less)) (t.2 k less))

-- ---- the first 64 bytes

both_unset : (a b : ℕ) → max a b ≡ 0 → (a ≡ 0) × (b ≡ 0)
both_unset a b none = omega (arith, none)

moved_bit : (mask from k : ℕ) → from ≤ k → k < 64 → bit_at (mask * 2 ^ from % 2 ^ 64) k ≡ bit_at mask (k - from)
moved_bit mask from k le lt =
    let n = mask * 2 ^ from in
    let plain : n + 0 ≡ n = omega arith in
    sym (bit_at_cat_low (n / 2 ^ 64) 64 (n % 2 ^ 64) k lt)
    ∙ ap (λ m. bit_at m k) (shr_split n 64 ∙ sym plain)
    ∙ bit_at_cat_high mask from 0 k (one-le-pow from 2 (omega arith)) le

pub more_stops : (bytes : List ℕ) (at from stops mask : ℕ) → AreStopsUpTo bytes at stops → from ≤ at → AreStops bytes from 16 mask → AreStopsUpTo bytes (from + 16) (bit_or stops (mask * 2 ^ from % 2 ^ 64))
more_stops bytes at from stops mask so_far ordered more k some lt few off =
    let off = both_unset _ _ (sym (bit_at_or stops (mask * 2 ^ from % 2 ^ 64) k) ∙ off) in
    elim (cases_lt k from) [
      | inl before ↦ so_far k some (omega (arith, before, ordered)) few off.0
      | inr behind ↦
          let back : from + (k - from) ≡ k = omega (arith, behind) in
          subst (λ p. goes_on_at bytes p ≡ true) back (more (k - from) (omega (arith, behind, lt)) (sym (moved_bit mask from k behind few) ∙ off.1))
    ]

pub up_to_first : (bytes : List ℕ) (start stops : ℕ) → 1 ≤ start → start ≤ length bytes → AreStopsUpTo bytes (length bytes) stops → stops < 2 ^ 64 → 0 < stops / 2 ^ start → start + trailing_zeros w64 (stops / 2 ^ start) < length bytes
    → GoesOnUpTo bytes start (start + trailing_zeros w64 (stops / 2 ^ start))
up_to_first bytes start stops behind within are small some short =
    let ahead = stops / 2 ^ start in
    let t = bit_at-trailing_zeros w64 ahead some (omega (arith, small, shr_le stops start)) in
    let n = trailing_zeros w64 ahead in
    let lt : start + n < 64 =
    (elim (cases_lt (start + n) 64) [
      | inl less ↦ less
      | inr more ↦ (let set : 1 ≡ 0 = sym t.1 ∙ ap (λ m. m % 2) (shr-shr stops start n) ∙ bit_at_above stops 64 (start + n) small more in absurd (omega (arith, set)))
    ]) in
    let here : GoesOnUpTo bytes start start = record { ordered = omega arith; within = within; goes = λ k from to. absurd (omega (arith, from, to)) } in
    go_on bytes start start n here (omega (arith, short)) (λ k less. are (start + k) (omega (arith, behind)) (omega (arith, short, less)) (omega (arith, lt, less)) (sym (ap (λ m. m % 2) (shr-shr stops start k)) ∙ t.2 k less))
