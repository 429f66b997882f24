-- A list in two parts.
use Rattle.std.proofs.Common.{◌≡◌, ◌⊎◌, ◌∙◌, ℕ, ◌<◌, ◌≤◌, List, length, map, take, drop, inl, inr, ap, sym, arith}
use Rattle.std.proofs.lemmas.Bool.{cases_lt}
use Rattle.std.proofs.lemmas.List.{take_all, drop_all, take-map, drop-map}

-- the first n, of which there may be fewer, and the others
parted : {A : Type 0} (xs : List A) (n m : ℕ) → (n ≤ length xs → m ≡ n) → (length xs ≤ n → m ≡ length xs) → (take m xs ≡ take n xs) × (drop m xs ≡ drop n xs)
parted xs n m few many = by (cases_lt n (length xs))
  where
    by : (n < length xs) ⊎ (length xs ≤ n) → (take m xs ≡ take n xs) × (drop m xs ≡ drop n xs)
    by (inl lt) = let e = few (omega (arith, lt)) in (ap (λ k. take k xs) e, ap (λ k. drop k xs) e)
    by (inr le) =
        let e = many le in
        let most : length xs ≤ m = omega (arith, e) in
        (take_all m xs most ∙ sym (take_all n xs le), drop_all m xs most ∙ sym (drop_all n xs le))

-- the two parts, with a function applied to each item
pub parted_as : {A B : Type 0} (f : A → B) (xs front back : List A) (n m : ℕ) → front ≡ take m xs → back ≡ drop m xs → (n ≤ length xs → m ≡ n) → (length xs ≤ n → m ≡ length xs)
    → (map f front ≡ take n (map f xs)) × (map f back ≡ drop n (map f xs))
parted_as f xs front back n m is other few many =
    let parts = parted xs n m few many in
    (ap (map f) (is ∙ parts.0) ∙ sym (take-map f n xs), ap (map f) (other ∙ parts.1) ∙ sym (drop-map f n xs))
