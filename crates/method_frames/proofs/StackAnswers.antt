-- The answers for two stacks, by their types and by their items.
use Rattle.std.proofs.Common.{◌≡◌, ◌≢◌, ◌⊎◌, ◌∙◌, ◌==◌, ℕ, suc, ◌+◌, ◌<◌, ◌≤◌, List, [], ◌∷◌, ◌++◌, length, take, drop, get_or, reverse, eq-eqb, ne_eqb, refl, sym, ap, ap₂, inl, inr, arith}
use Rattle.std.proofs.lemmas.Bool.{cases_eq}
use Rattle.std.proofs.lemmas.List.{length-map, length-take-le, length-drop, take-append-drop, get_or-drop, get_or-take, map-append, length-reverse, reverse-reverse, ext_get_or}
use Rattle.hierarchy.specs.Class.{ClassFact}
use Rattle.hierarchy.specs.Answer.{Outcome, yes, no, yes_if}
use Rattle.frames.specs.VerificationType.{VerificationType, top, int, float, long, double, null, class, array, uninit_this, uninit}
use Rattle.frames.specs.Assignable.{type_answer}
use Rattle.frames.specs.FrameAssignable.{both, width_of, item_answer, list_answer, stack_answer}
use Rattle.frames.specs.Slots.{units_of}
use Rattle.frames.proofs.Slots.{both_no, both_yes, both_assoc, stack_reverse}
use Rattle.type_numbers.specs.Numbers.{Numbering}
use Rattle.type_numbers.specs.Decoding.{type_by, types_by}
use Rattle.method_frames.proofs.Counting.{types_reverse}

not_empty : (t : VerificationType) → 1 ≤ width_of t
not_empty top = omega arith
not_empty int = omega arith
not_empty float = omega arith
not_empty long = omega arith
not_empty double = omega arith
not_empty null = omega arith
not_empty (class name) = omega arith
not_empty (array component) = omega arith
not_empty uninit_this = omega arith
not_empty (uninit offset) = omega arith

module _ (classes : List ClassFact) where
  abbrev type : VerificationType → VerificationType → Outcome
  type = type_answer classes

  abbrev item : VerificationType → VerificationType → Outcome
  item = item_answer classes

  to_long : (a : VerificationType) → (type a long ≡ no) ⊎ (2 ≤ width_of a)
  to_long top = inl refl
  to_long int = inl refl
  to_long float = inl refl
  to_long long = inr (omega arith)
  to_long double = inl refl
  to_long null = inl refl
  to_long (class name) = inl refl
  to_long (array component) = inl refl
  to_long uninit_this = inl refl
  to_long (uninit offset) = inl refl

  to_double : (a : VerificationType) → (type a double ≡ no) ⊎ (2 ≤ width_of a)
  to_double top = inl refl
  to_double int = inl refl
  to_double float = inl refl
  to_double long = inl refl
  to_double double = inr (omega arith)
  to_double null = inl refl
  to_double (class name) = inl refl
  to_double (array component) = inl refl
  to_double uninit_this = inl refl
  to_double (uninit offset) = inl refl

  -- no type is assignable to a wider one
  no_wider : (a b : VerificationType) → (type a b ≡ no) ⊎ (width_of b ≤ width_of a)
  no_wider a top = inr (not_empty a)
  no_wider a int = inr (not_empty a)
  no_wider a float = inr (not_empty a)
  no_wider a long = to_long a
  no_wider a double = to_double a
  no_wider a null = inr (not_empty a)
  no_wider a (class name) = inr (not_empty a)
  no_wider a (array component) = inr (not_empty a)
  no_wider a uninit_this = inr (not_empty a)
  no_wider a (uninit offset) = inr (not_empty a)

  item_no : (a b : VerificationType) → type a b ≡ no → item a b ≡ no
  item_no a b e = ap (both (yes_if (width_of a == width_of b))) e ∙ both_no (yes_if (width_of a == width_of b))

  item_even : (a b : VerificationType) → width_of a ≡ width_of b → item a b ≡ type a b
  item_even a b e = ap (λ t. both (yes_if t) (type a b)) (eq-eqb (width_of a) (width_of b) e)

  item_uneven : (a b : VerificationType) → width_of a ≢ width_of b → item a b ≡ no
  item_uneven a b ne = ap (λ t. both (yes_if t) (type a b)) (ne_eqb (width_of a) (width_of b) ne)

  abbrev IsNo : List VerificationType → List VerificationType → Type 0
  IsNo xs ys = (stack_answer type xs ys ≡ no) × (stack_answer item xs ys ≡ no)

  no_beneath : (x y : VerificationType) (xs ys : List VerificationType) → IsNo xs ys → IsNo (x ∷ xs) (y ∷ ys)
  no_beneath x y xs ys h = (ap (λ r. both r (type x y)) h.0, ap (λ r. both r (item x y)) h.1)

  no_on_top : (x y : VerificationType) (xs ys : List VerificationType) → type x y ≡ no → IsNo (x ∷ xs) (y ∷ ys)
  no_on_top x y xs ys e = (ap (both (stack_answer type xs ys)) e ∙ both_no (stack_answer type xs ys), ap (both (stack_answer item xs ys)) (item_no x y e) ∙ both_no (stack_answer item xs ys))

  -- either both answers are no, or the first stack has no fewer units
  no_more_units : (xs ys : List VerificationType) → length xs ≡ length ys → IsNo xs ys ⊎ (units_of ys ≤ units_of xs)
  no_more_units [] [] e = inr (omega arith)
  no_more_units [] (y ∷ ys) e = absurd (omega (arith, e))
  no_more_units (x ∷ xs) [] e = absurd (omega (arith, e))
  no_more_units (x ∷ xs) (y ∷ ys) e = elim (no_wider x y) [
    | inl h ↦ inl (no_on_top x y xs ys h)
    | inr le ↦ elim (no_more_units xs ys (omega (arith, e))) [
      | inl h ↦ inl (no_beneath x y xs ys h)
      | inr more ↦ inr (omega (arith, le, more))
    ]
  ]

  -- stacks of as many units compare by their types alone
  even_units : (xs ys : List VerificationType) → length xs ≡ length ys → units_of xs ≡ units_of ys → stack_answer item xs ys ≡ stack_answer type xs ys
  even_units [] [] e u = refl
  even_units [] (y ∷ ys) e u = absurd (omega (arith, e))
  even_units (x ∷ xs) [] e u = absurd (omega (arith, e))
  even_units (x ∷ xs) (y ∷ ys) e u = elim (no_wider x y) [
    | inl h ↦ let n = no_on_top x y xs ys h in n.1 ∙ sym n.0
    | inr le ↦ elim (no_more_units xs ys (omega (arith, e))) [
      | inl h ↦ let n = no_beneath x y xs ys h in n.1 ∙ sym n.0
      | inr more ↦ ap₂ both (even_units xs ys (omega (arith, e)) (omega (arith, u, le, more))) (item_even x y (omega (arith, u, le, more)))
    ]
  ]

  -- the answer for stacks of other units is no
  pub uneven_units : (xs ys : List VerificationType) → length xs ≡ length ys → units_of xs ≢ units_of ys → stack_answer item xs ys ≡ no
  uneven_units [] [] e ne = absurd (ne refl)
  uneven_units [] (y ∷ ys) e ne = absurd (omega (arith, e))
  uneven_units (x ∷ xs) [] e ne = absurd (omega (arith, e))
  uneven_units (x ∷ xs) (y ∷ ys) e ne = elim (cases_eq (width_of x) (width_of y)) [
    | inl q ↦ ap (λ r. both r (item x y)) (uneven_units xs ys (omega (arith, e)) (λ u. ne (omega (arith, q, u))))
    | inr h ↦ ap (both (stack_answer item xs ys)) (item_uneven x y h) ∙ both_no (stack_answer item xs ys)
  ]

  -- ---- rows of which the first places are items, and all above are Top where they are wanted

  list_append : (xs ys us vs : List VerificationType) → length xs ≡ length ys → list_answer type (xs ++ us) (ys ++ vs) ≡ both (list_answer type xs ys) (list_answer type us vs)
  list_append [] [] us vs e = refl
  list_append [] (y ∷ ys) us vs e = absurd (omega (arith, e))
  list_append (x ∷ xs) [] us vs e = absurd (omega (arith, e))
  list_append (x ∷ xs) (y ∷ ys) us vs e =
      ap (both (type x y)) (list_append xs ys us vs (omega (arith, e))) ∙ sym (both_assoc (type x y) (list_answer type xs ys) (list_answer type us vs))

  tops_fit : (s : Numbering) (xs ys : List ℕ) → length xs ≡ length ys → ((k : ℕ) → get_or ys k 0 ≡ 0) → list_answer type (types_by s xs) (types_by s ys) ≡ yes
  tops_fit s [] [] e tops = refl
  tops_fit s [] (y ∷ ys) e tops = absurd (omega (arith, e))
  tops_fit s (x ∷ xs) [] e tops = absurd (omega (arith, e))
  tops_fit s (x ∷ xs) (y ∷ ys) e tops =
      ap (λ n. both (type (type_by s x) (type_by s n)) (list_answer type (types_by s xs) (types_by s ys))) (tops 0)
      ∙ tops_fit s xs ys (omega (arith, e)) (λ k. tops (suc k))

  module _ (s : Numbering) (items row wanted : List ℕ) (depth : ℕ) (even : length wanted ≡ length row) (few : depth ≤ length row) (deep : depth ≡ length items)
      (same : (k : ℕ) → k < depth → get_or row k 0 ≡ get_or (reverse items) k 0) (tops : (k : ℕ) → depth ≤ k → get_or wanted k 0 ≡ 0) where
    abbrev below : List ℕ
    below = take depth row

    abbrev wanted_below : List ℕ
    wanted_below = take depth wanted

    below_long : length below ≡ depth
    below_long = length-take-le depth row few

    wanted_long : length wanted_below ≡ depth
    wanted_long = length-take-le depth wanted (omega (arith, even, few))

    types_long : (xs : List ℕ) → length (types_by s xs) ≡ length xs
    types_long xs = length-map xs (type_by s)

    level : length (types_by s below) ≡ length (types_by s wanted_below)
    level = omega (arith, types_long below, types_long wanted_below, below_long, wanted_long)

    parts : (xs : List ℕ) → types_by s xs ≡ types_by s (take depth xs) ++ types_by s (drop depth xs)
    parts xs = ap (types_by s) (sym (take-append-drop depth xs)) ∙ map-append (type_by s) (take depth xs) (drop depth xs)

    rest_fits : list_answer type (types_by s (drop depth row)) (types_by s (drop depth wanted)) ≡ yes
    rest_fits = tops_fit s (drop depth row) (drop depth wanted) (omega (arith, length-drop depth row, length-drop depth wanted, even)) (λ k. get_or-drop depth wanted k 0 ∙ tops (depth + k) (omega arith))

    first_fit : list_answer type (types_by s row) (types_by s wanted) ≡ list_answer type (types_by s below) (types_by s wanted_below)
    first_fit =
        ap₂ (list_answer type) (parts row) (parts wanted)
        ∙ list_append (types_by s below) (types_by s wanted_below) (types_by s (drop depth row)) (types_by s (drop depth wanted)) level
        ∙ ap (both (list_answer type (types_by s below) (types_by s wanted_below))) rest_fits
        ∙ both_yes (list_answer type (types_by s below) (types_by s wanted_below))

    held : items ≡ reverse below
    held =
        let long = length-reverse items in
        sym (reverse-reverse items) ∙ ap reverse (sym (ext_get_or 0 below (reverse items) (omega (arith, below_long, long, deep))
        (λ k lt. get_or-take depth row k 0 (omega (arith, lt, below_long)) ∙ same k (omega (arith, lt, below_long)))))

    pub row_answer : units_of (types_by s items) ≡ units_of (types_by s (reverse wanted_below))
        → list_answer type (types_by s row) (types_by s wanted) ≡ stack_answer item (types_by s items) (types_by s (reverse wanted_below))
    row_answer u =
        let as_stacks : stack_answer type (types_by s items) (types_by s (reverse wanted_below)) ≡ list_answer type (types_by s below) (types_by s wanted_below) =
        ap (λ xs. stack_answer type (types_by s xs) (types_by s (reverse wanted_below))) held
        ∙ ap₂ (stack_answer type) (types_reverse s below) (types_reverse s wanted_below)
        ∙ stack_reverse type (types_by s below) (types_by s wanted_below) level in
        let long = length-reverse wanted_below in
        first_fit ∙ sym as_stacks
        ∙ sym (even_units (types_by s items) (types_by s (reverse wanted_below)) (omega (arith, types_long items, types_long (reverse wanted_below), long, wanted_long, deep)) u)
