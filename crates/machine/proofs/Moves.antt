-- Laws of the stack that instructions leave.
use Rattle.std.proofs.Common.{◌≡◌, ℕ, zero, suc, ◌-◌, ◌<◌, ◌≤◌, List, [], ◌∷◌, ◌++◌, length, get_or, take, drop, map, reverse, refl, sym, ◌∙◌, ap, arith, Some, slice_get, inl, inr}
use Rattle.std.proofs.lemmas.Bool.{cases_lt}
use Rattle.std.proofs.lemmas.List.{drop_all, map-append, reverse-append, length-map, length-reverse, length-drop, take-append-drop, take_rest, get_or-reverse}
use Rattle.std.proofs.Math.ListN.{get_or-map}
use Rattle.std.proofs.lemmas.Option.{slice_get-get_or, slice_get_past}
use Rattle.insn.specs.OperandStacks.{beneath, chosen, with_item}
use Rattle.machine.specs.declared.items.Value.{Value as RawValue}
use Rattle.machine.specs.Views.{value_view, stack_of}

pub beneath_drop : {A B : Type 0} → (ks : List A) (vs : List B) → beneath ks vs ≡ drop (length ks) vs
beneath_drop [] vs = refl
beneath_drop (k ∷ ks) [] = refl
beneath_drop (k ∷ ks) (v ∷ vs) = beneath_drop ks vs

drop_front : {A : Type 0} → (c : ℕ) (xs ys : List A) → length xs ≡ c → drop c (xs ++ ys) ≡ ys
drop_front zero [] ys e = refl
drop_front zero (x ∷ xs) ys e = absurd (omega (arith, e))
drop_front (suc c) [] ys e = absurd (omega (arith, e))
drop_front (suc c) (x ∷ xs) ys e = drop_front c xs ys (omega (arith, e))

pub stack_append : (xs ys : List RawValue) → stack_of (xs ++ ys) ≡ stack_of ys ++ stack_of xs
stack_append xs ys = ap reverse (map-append value_view xs ys) ∙ reverse-append (map value_view xs) (map value_view ys)

-- the last of the vector is the top
pub stack_last : (xs : List RawValue) (v : RawValue) → stack_of (xs ++ v ∷ []) ≡ value_view v ∷ stack_of xs
stack_last xs v = stack_append xs (v ∷ [])

stack_length : (vs : List RawValue) → length (stack_of vs) ≡ length vs
stack_length vs = length-reverse (map value_view vs) ∙ length-map vs value_view

pub below : (vs : List RawValue) (c k : ℕ) → k ≡ length vs - c → stack_of (take k vs) ≡ drop c (stack_of vs)
below vs c k e = elim (cases_lt (length vs) c) [
  | inl lt ↦
      let none : k ≡ 0 = omega arith in
      ap (λ n. stack_of (take n vs)) none ∙ sym (drop_all c (stack_of vs) (omega (arith, stack_length vs, lt)))
  | inr le ↦
      let size : length (stack_of (drop k vs)) ≡ c = omega (arith, stack_length (drop k vs), length-drop k vs, le, e) in
      sym (ap (drop c) (ap stack_of (sym (take-append-drop k vs)) ∙ stack_append (take k vs) (drop k vs)) ∙ drop_front c (stack_of (drop k vs)) (stack_of (take k vs)) size)
]

-- the item of a number, as it lies in the vector
pub item_at : (xs : List RawValue) (n i : ℕ) (d : RawValue) → n < length xs → i ≡ length xs - 1 - n → slice_get (stack_of xs) n ≡ Some (value_view (get_or xs i d))
item_at xs n i d lt at =
    let within : n < length (map value_view xs) = omega (arith, length-map xs value_view) in
    slice_get-get_or (stack_of xs) n (value_view d) (omega (arith, length-reverse (map value_view xs), within))
    ∙ ap Some (get_or-reverse (map value_view xs) n (value_view d) within ∙ ap (λ k. get_or (map value_view xs) k (value_view d)) (ap (λ k. k - 1 - n) (length-map xs value_view) ∙ sym at) ∙ get_or-map value_view xs i d)

-- a list by its first item and the slice of the others
pub first_and_others : {A : Type 0} → (ns : List A) (d : A) → 1 ≤ length ns → ns ≡ get_or ns 0 d ∷ take (length ns - 1) (drop 1 ns)
first_and_others [] d le = absurd (omega (arith, le))
first_and_others (n ∷ ns) d le = ap (λ z. n ∷ z) (sym (take_rest (n ∷ ns) 1))

module _ (ns : List ℕ) (some : 1 ≤ length ns) (stack old mid : List RawValue) (e : stack_of mid ≡ chosen (stack_of stack) (take (length ns - 1) (drop 1 ns)) ++ stack_of old) where
  abbrev number : ℕ
  number = get_or ns 0 0

  whole : chosen (stack_of stack) ns ≡ with_item (slice_get (stack_of stack) number) (chosen (stack_of stack) (take (length ns - 1) (drop 1 ns)))
  whole = ap (chosen (stack_of stack)) (first_and_others ns 0 some)

  pub pushes_item : (i : ℕ) (d : RawValue) (new : List RawValue) → number < length stack → i ≡ length stack - 1 - number → new ≡ mid ++ get_or stack i d ∷ []
      → stack_of new ≡ chosen (stack_of stack) ns ++ stack_of old
  pushes_item i d new lt at pushed =
      ap stack_of pushed ∙ stack_last mid (get_or stack i d) ∙ ap (λ z. value_view (get_or stack i d) ∷ z) e
      ∙ sym (ap (λ z. z ++ stack_of old) (whole ∙ ap (λ z. with_item z (chosen (stack_of stack) (take (length ns - 1) (drop 1 ns)))) (item_at stack number i d lt at)))

  pub pushes_none : length stack ≤ number → stack_of mid ≡ chosen (stack_of stack) ns ++ stack_of old
  pushes_none le =
      e ∙ sym (ap (λ z. z ++ stack_of old) (whole ∙ ap (λ z. with_item z (chosen (stack_of stack) (take (length ns - 1) (drop 1 ns)))) (slice_get_past (stack_of stack) number (omega (arith, le, stack_length stack)))))
