-- From the mask of two loads, one byte apart, to bytes that are joined in a class name.
use Rattle.std.proofs.Common.{◌≡◌, ℕ, ◌+◌, ◌-◌, ◌%◌, ◌^◌, ◌<◌, ◌≤◌, Bool, true, false, not, eqb, cond, ◌&&◌, ◌||◌, List, [], ◌∷◌, map, length, get_or, bit_and, bit_or, Fits, w8, refl, sym, ap, ap₂, ◌∙◌, subst, arith}
use Rattle.std.specs.Prelude.{nat_eq}
use Rattle.std.specs.List.{prefix_len}
use Rattle.std.proofs.lemmas.Bool.{agree_below, agree_below_at, not-true, eqb-true}
use Rattle.std.proofs.lemmas.Simd.{map-map, mask_l-mod, length-chunk, get_or-chunk, get_or-zip2, length-zip2, leading_from_mask_l}
use Rattle.std.proofs.lemmas.List.{length-map}
use Rattle.std.proofs.lemmas.List.Sums.{prefix_len_passes}
use lib.Lanes.{chunk, zip2, mask_l, top}
use Rattle.names.specs.Names.{slash, is_name_unit}
use Rattle.names.specs.Forms.{AreJoinedBetween}
use Rattle.names.proofs.Lanes.{joined}

firsts : (xs ys : List ℕ) → length xs ≡ length ys → xs ≡ map (λ (x : ℕ × ℕ). x.0) (zip2 (λ a b. (a, b)) xs ys)
firsts [] ys e = refl
firsts (x ∷ xs) [] e = absurd (omega (arith, e))
firsts (x ∷ xs) (y ∷ ys) e = ap (λ r. x ∷ r) (firsts xs ys (omega (arith, e)))

seconds : (xs ys : List ℕ) → length xs ≡ length ys → ys ≡ map (λ (x : ℕ × ℕ). x.1) (zip2 (λ a b. (a, b)) xs ys)
seconds [] [] e = refl
seconds [] (y ∷ ys) e = absurd (omega (arith, e))
seconds (x ∷ xs) [] e = absurd (omega (arith, e))
seconds (x ∷ xs) (y ∷ ys) e = ap (λ r. y ∷ r) (seconds xs ys (omega (arith, e)))

-- the lanes of a comparison with the slash
abbrev slashes : ℕ → ℕ
slashes a = cond (eqb a 47) 255 0

module _ (d : List ℕ) (i n : ℕ) (room : i + n + 1 ≤ length d) (few : n ≤ 64) (fits : (k : ℕ) → Fits w8 (get_or d k 0))
    (A O : ℕ → ℕ) (za zo pa pb : List ℕ) (slash_first : pa ≡ map slashes (chunk i n d)) (slash_second : pb ≡ map slashes (chunk (i + 1) n d))
    (angles : za ≡ map A (chunk i n d)) (others : zo ≡ map O (chunk i n d)) where
  abbrev pairs : List (ℕ × ℕ)
  pairs = zip2 (λ a b. (a, b)) (chunk i n d) (chunk (i + 1) n d)

  abbrev lane : ℕ × ℕ → ℕ
  lane x = bit_or (bit_or (bit_and (slashes (x.0)) (slashes (x.1))) (A (x.0))) (O (x.0))

  abbrev stops : ℕ × ℕ → Bool
  stops x = top 7 (lane x)

  long : length (chunk i n d) ≡ n
  long = length-chunk i n d (omega (arith, room))

  long_next : length (chunk (i + 1) n d) ≡ n
  long_next = length-chunk (i + 1) n d (omega (arith, room))

  same : length (chunk i n d) ≡ length (chunk (i + 1) n d)
  same = long ∙ sym long_next

  on_first : (f : ℕ → ℕ) (z : List ℕ) → z ≡ map f (chunk i n d) → z ≡ map (λ (x : ℕ × ℕ). f (x.0)) pairs
  on_first f z e = e ∙ ap (map f) (firsts (chunk i n d) (chunk (i + 1) n d) same) ∙ map-map f (λ (x : ℕ × ℕ). x.0) pairs

  on_second : (f : ℕ → ℕ) (z : List ℕ) → z ≡ map f (chunk (i + 1) n d) → z ≡ map (λ (x : ℕ × ℕ). f (x.1)) pairs
  on_second f z e = e ∙ ap (map f) (seconds (chunk i n d) (chunk (i + 1) n d) same) ∙ map-map f (λ (x : ℕ × ℕ). x.1) pairs

  lanes : zip2 bit_or (zip2 bit_or (zip2 bit_and pa pb) za) zo ≡ map lane pairs
  lanes =
      joined bit_or (λ (x : ℕ × ℕ). bit_or (bit_and (slashes (x.0)) (slashes (x.1))) (A (x.0))) (λ (x : ℕ × ℕ). O (x.0)) pairs
      (joined bit_or (λ (x : ℕ × ℕ). bit_and (slashes (x.0)) (slashes (x.1))) (λ (x : ℕ × ℕ). A (x.0)) pairs
      (joined bit_and (λ (x : ℕ × ℕ). slashes (x.0)) (λ (x : ℕ × ℕ). slashes (x.1)) pairs (on_first slashes pa slash_first) (on_second slashes pb slash_second)) (on_first A za angles))
      (on_first O zo others)

  long_pairs : length pairs ≡ n
  long_pairs = length-zip2 (λ (a b : ℕ). (a, b)) (chunk i n d) (chunk (i + 1) n d) same ∙ long

  none_stops : nat_eq (mask_l (map (top 7) (zip2 bit_or (zip2 bit_or (zip2 bit_and pa pb) za) zo)) % 2 ^ 64) 0 ≡ true → prefix_len (λ x. not (stops x)) pairs ≡ n
  none_stops none =
      let mask = ap (λ l. mask_l l % 2 ^ 64) (ap (map (top 7)) lanes ∙ map-map (top 7) lane pairs) ∙ mask_l-mod (map stops pairs) 64 (omega (arith, length-map pairs stops, long_pairs, few)) in
      leading_from_mask_l stops pairs (sym mask ∙ eqb-true _ _ none) ∙ long_pairs

  here : (k : ℕ) → i ≤ k → k < i + n → get_or pairs (k - i) (0, 0) ≡ (get_or d k 0, get_or d (k + 1) 0)
  here k from to =
      let back : i + (k - i) ≡ k = omega (arith, from) in
      let next : (i + 1) + (k - i) ≡ k + 1 = omega (arith, from) in
      get_or-zip2 (λ (a b : ℕ). (a, b)) (chunk i n d) (chunk (i + 1) n d) (k - i) 0 0 (0, 0) (omega (arith, long, from, to)) (omega (arith, long_next, from, to))
      ∙ ap₂ (λ (a b : ℕ). (a, b)) (get_or-chunk i n d (k - i) 0 (omega (arith, from, to)) ∙ ap (λ j. get_or d j 0) back) (get_or-chunk (i + 1) n d (k - i) 0 (omega (arith, from, to)) ∙ ap (λ j. get_or d j 0) next)

  -- for each byte, and whether the next is a slash: a lane stops, or the two are joined
  abbrev Tested : Bool → Type 0
  Tested t = agree_below (λ a. top 7 (bit_or (bit_or (bit_and (slashes a) (cond t 255 0)) (A a)) (O a)) || ((is_name_unit a || nat_eq a slash) && not (nat_eq a slash && t))) (λ _. true) 256 ≡ true

  by_next : (t : Bool) (a : ℕ) → Tested t → a < 256 → top 7 (bit_or (bit_or (bit_and (slashes a) (cond t 255 0)) (A a)) (O a)) ≡ false → ((is_name_unit a || nat_eq a slash) && not (nat_eq a slash && t)) ≡ true
  by_next t a all lt h =
      sym (ap (λ b. b || ((is_name_unit a || nat_eq a slash) && not (nat_eq a slash && t))) h)
      ∙ agree_below_at (λ a. top 7 (bit_or (bit_or (bit_and (slashes a) (cond t 255 0)) (A a)) (O a)) || ((is_name_unit a || nat_eq a slash) && not (nat_eq a slash && t))) (λ _. true) 256 a all lt

  either : (t : Bool) → Tested true → Tested false → Tested t
  either true all some = all
  either false all some = some

  pub all_joined : nat_eq (mask_l (map (top 7) (zip2 bit_or (zip2 bit_or (zip2 bit_and pa pb) za) zo)) % 2 ^ 64) 0 ≡ true → Tested true → Tested false → AreJoinedBetween d i (i + n)
  all_joined none all some k from to =
      let open_ = not-true _ (prefix_len_passes (λ x. not (stops x)) pairs (k - i) (0, 0) (omega (arith, none_stops none, from, to))) in
      let is = subst (λ x. stops x ≡ false) (here k from to) open_ in
      by_next (eqb (get_or d (k + 1) 0) 47) (get_or d k 0) (either (eqb (get_or d (k + 1) 0) 47) all some) (fits k).fits is
