-- From the mask of the comparison of eight numbers with eight wanted ones to where they are not decided.
use Rattle.std.proofs.Common.{◌≡◌, ◌∙◌, ℕ, ◌%◌, ◌^◌, ◌<◌, ◌≤◌, Bool, true, false, not, eqb, eq-eqb, cond, if◌then◌else◌, List, [], ◌∷◌, map, length, get_or, bit_and, bit_or, refl, sym, ap, arith}
use Rattle.std.specs.List.{prefix_len}
use Rattle.std.specs.Int.{w64, trailing_zeros}
use Rattle.std.proofs.lemmas.Bool.{not-true, not-false, ne_eqb}
use Rattle.std.proofs.lemmas.Simd.{map-map, mask_l-mod, zip2_splat, length-zip2, get_or-zip2, leading_from_mask_l, trailing_mask_l}
use Rattle.std.proofs.lemmas.List.{length-map}
use Rattle.std.proofs.lemmas.List.Sums.{prefix_len-le-length, prefix_len_passes, prefix_len_stops}
use lib.Lanes.{zip2, mask_l, top}
use Rattle.blocks.specs.Lanes.{is_decided_by, AreDecidedLanes}

abbrev pair : ℕ → ℕ → ℕ × ℕ
pair a b = (a, b)

-- all bits of a lane where it holds
abbrev all_if : Bool → ℕ
all_if t = cond t 4294967295 0

-- the lanes of a comparison: all bits where the numbers differ, or where they are equal
abbrev differing : List ℕ → List ℕ → List ℕ
differing a b = zip2 (λ x y. all_if (not (eqb x y))) a b

abbrev equal : List ℕ → List ℕ → List ℕ
equal a b = zip2 (λ x y. all_if (eqb x y)) a b

abbrev pub eight : ℕ → List ℕ
eight mark = mark ∷ mark ∷ mark ∷ mark ∷ mark ∷ mark ∷ mark ∷ mark ∷ []

top_all : (t : Bool) → top 31 (all_if t) ≡ t
top_all true = refl
top_all false = refl

module _ (mark : ℕ) where
  abbrev lane : Bool → ℕ × ℕ → ℕ
  lane fits x = all_if (not (is_decided_by mark fits (x.0) (x.1)))

  both : (t u : Bool) → bit_and (all_if (not t)) (all_if (not u)) ≡ all_if (not (if u then true else t))
  both true true = refl
  both true false = refl
  both false true = refl
  both false false = refl

  either : (t u : Bool) → bit_or (all_if (not t)) (all_if u) ≡ all_if (not (if u then false else t))
  either true true = refl
  either true false = refl
  either false true = refl
  either false false = refl

  where_every_fits : (a b : List ℕ) → zip2 bit_and (differing a b) (map (λ y. all_if (not (eqb y mark))) b) ≡ map (lane true) (zip2 pair a b)
  where_every_fits [] b = refl
  where_every_fits (x ∷ a) [] = refl
  where_every_fits (x ∷ a) (y ∷ b) =
      ap (λ n. n ∷ zip2 bit_and (differing a b) (map (λ z. all_if (not (eqb z mark))) b)) (both (eqb x y) (eqb y mark))
      ∙ ap (λ r. lane true (x, y) ∷ r) (where_every_fits a b)

  where_none_fits : (a b : List ℕ) → zip2 bit_or (differing a b) (map (λ y. all_if (eqb y mark)) b) ≡ map (lane false) (zip2 pair a b)
  where_none_fits [] b = refl
  where_none_fits (x ∷ a) [] = refl
  where_none_fits (x ∷ a) (y ∷ b) =
      ap (λ n. n ∷ zip2 bit_or (differing a b) (map (λ z. all_if (eqb z mark)) b)) (either (eqb x y) (eqb y mark))
      ∙ ap (λ r. lane false (x, y) ∷ r) (where_none_fits a b)

  module _ (a b : List ℕ) (first : length a ≡ 8) (second : length b ≡ 8) where
    abbrev pairs : List (ℕ × ℕ)
    pairs = zip2 pair a b

    -- the lanes that are compared, as the pairs say, where every number fits the mark and where none does
    pub every_fits : (n : ℕ) → (n ≡ 0 → ⊥) → (lanes : List ℕ) → lanes ≡ zip2 bit_and (differing a b) (differing b (eight mark)) → lanes ≡ map (lane (not (eqb n 0))) pairs
    every_fits n some lanes e =
        e
        ∙ ap (zip2 bit_and (differing a b)) (zip2_splat (λ x y. all_if (not (eqb x y))) b 8 mark second)
        ∙ where_every_fits a b
        ∙ ap (λ t. map (lane (not t)) pairs) (sym (ne_eqb n 0 some))

    pub none_fits : (n : ℕ) → n ≡ 0 → (lanes : List ℕ) → lanes ≡ zip2 bit_or (differing a b) (equal b (eight mark)) → lanes ≡ map (lane (not (eqb n 0))) pairs
    none_fits n none lanes e =
        e
        ∙ ap (zip2 bit_or (differing a b)) (zip2_splat (λ x y. all_if (eqb x y)) b 8 mark second)
        ∙ where_none_fits a b
        ∙ ap (λ t. map (lane (not t)) pairs) (sym (eq-eqb n 0 none))

    module _ (fits : Bool) (lanes : List ℕ) (says : lanes ≡ map (lane fits) pairs) where
      abbrev pub mask : ℕ
      mask = mask_l (map (top 31) lanes) % 2 ^ 64

      abbrev stops : ℕ × ℕ → Bool
      stops x = top 31 (lane fits x)

      long : length pairs ≡ 8
      long = length-zip2 pair a b (first ∙ sym second) ∙ first

      is_mask : mask ≡ mask_l (map stops pairs)
      is_mask =
          ap (λ z. mask_l (map (top 31) z) % 2 ^ 64) says
          ∙ ap (λ z. mask_l z % 2 ^ 64) (map-map (top 31) (lane fits) pairs)
          ∙ mask_l-mod (map stops pairs) 64 (omega (arith, length-map pairs stops, long))

      at : (k : ℕ) → k < 8 → get_or pairs k (0, 0) ≡ (get_or a k 0, get_or b k 0)
      at k h = get_or-zip2 pair a b k 0 0 (0, 0) (omega (arith, first, h)) (omega (arith, second, h))

      stops_at : (k : ℕ) → k < 8 → stops (get_or pairs k (0, 0)) ≡ not (is_decided_by mark fits (get_or a k 0) (get_or b k 0))
      stops_at k h = ap stops (at k h) ∙ top_all (not (is_decided_by mark fits (get_or a k 0) (get_or b k 0)))

      counted : (r : ℕ) → r ≡ prefix_len (λ x. not (stops x)) pairs → AreDecidedLanes (is_decided_by mark fits) a b 8 r
      counted r e =
          let most = prefix_len-le-length (λ x. not (stops x)) pairs in
          let few : r ≤ 8 = omega (arith, e, most, long) in
          record {
            few = few;
            before = λ k to. not-false _ (sym (stops_at k (omega (arith, to, few))) ∙ not-true _ (prefix_len_passes (λ x. not (stops x)) pairs k (0, 0) (omega (arith, e, to))));
            stop = λ less.
                not-true _ (
                sym (stops_at r less)
                ∙ ap (λ i. stops (get_or pairs i (0, 0))) e
                ∙ not-false _ (prefix_len_stops (λ x. not (stops x)) pairs (0, 0) (omega (arith, e, long, less)))
                );
          }

      pub none_set : mask ≡ 0 → AreDecidedLanes (is_decided_by mark fits) a b 8 8
      none_set e = counted 8 (sym (leading_from_mask_l stops pairs (sym is_mask ∙ e) ∙ long))

      pub some_set : (mask ≡ 0 → ⊥) → AreDecidedLanes (is_decided_by mark fits) a b 8 (trailing_zeros w64 mask)
      some_set h =
          let some : mask_l (map stops pairs) ≡ 0 → ⊥ = λ e. h (is_mask ∙ e) in
          counted (trailing_zeros w64 mask) (ap (trailing_zeros w64) is_mask ∙ trailing_mask_l stops 64 pairs (omega (arith, long)) (omega (arith, some)))
