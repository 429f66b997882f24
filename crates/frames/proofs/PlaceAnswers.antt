-- The answers for the places of two frames, one by one.
use Rattle.std.proofs.Common.{◌≡◌, ◌∙◌, ℕ, zero, suc, ◌+◌, ◌-◌, ◌<◌, ◌≤◌, List, [], ◌∷◌, ◌++◌, Some, map, length, drop, reverse, slice_get, get_or, refl, sym, ap, inl, inr, arith, Bool, false, true, not, ◌||◌}
use Rattle.std.specs.Prelude.{option_map, nat_eq}
use Rattle.std.proofs.lemmas.Bool.{cases_lt, true≢false, eqb-true, eqb-false}
use Rattle.std.proofs.lemmas.Option.{slice_get-map, slice_get-get_or, slice_get_read}
use Rattle.std.proofs.lemmas.List.{length-map, length-reverse, length-append, reverse-reverse, drop_all, get_or-map, get_or_append_left, get_or-append_right}
use Rattle.hierarchy.specs.Class.{ClassFact}
use Rattle.hierarchy.specs.Answer.{Outcome, yes, no}
use Rattle.hierarchy.proofs.Names.{none_some, some_same}
use Rattle.frames.specs.declared.vtype.VType.{VType}
use Rattle.frames.specs.declared.frame.Frame.{Frame}
use Rattle.frames.specs.VerificationType.{VerificationType, type_of, top}
use Rattle.frames.specs.FrameFact.{frame_of}
use Rattle.frames.specs.Assignable.{type_answer}
use Rattle.frames.specs.FrameAssignable.{both, item_answer}
use Rattle.frames.specs.Meaning.{IsAlike, answers, slot_answers}
use Rattle.frames.specs.Packing.{absent_slot, slot_of, types_of, slots_of}
use Rattle.frames.specs.PackedFrames.{joined}
use Rattle.frames.specs.Undecided.{is_undecided}
use Rattle.frames.proofs.Slots.{both_no, both_yes, both_assoc}
use Rattle.frames.proofs.Frames.{item_itself}
use Rattle.frames.proofs.Types.{type_itself}
use Rattle.frames.proofs.SlotTypes.{equal_types}

-- ---- lists of answers

get_first : (rs ss : List Outcome) (i : ℕ) (r : Outcome) → slice_get rs i ≡ Some r → slice_get (rs ++ ss) i ≡ Some r
get_first [] ss i r e = absurd (none_some e)
get_first (q ∷ rs) ss zero r e = e
get_first (q ∷ rs) ss (suc i) r e = get_first rs ss i r e

get_behind : (rs ss : List Outcome) (i n : ℕ) (r : Outcome) → n ≡ length rs + i → slice_get ss i ≡ Some r → slice_get (rs ++ ss) n ≡ Some r
get_behind [] ss i n r h e = let same : n ≡ i = omega (arith, h) in ap (slice_get ss) same ∙ e
get_behind (q ∷ rs) ss i zero r h e = absurd (omega (arith, h))
get_behind (q ∷ rs) ss i (suc n) r h e = get_behind rs ss i n r (omega (arith, h)) e

pub answer_at : (f : VerificationType → VerificationType → Outcome) (xs ys : List VerificationType) (i : ℕ) (x y : VerificationType)
    → slice_get xs i ≡ Some x → slice_get ys i ≡ Some y → slice_get (answers f xs ys) i ≡ Some (f x y)
answer_at f [] ys i x y p q = absurd (none_some p)
answer_at f (a ∷ xs) [] i x y p q = absurd (none_some q)
answer_at f (a ∷ xs) (b ∷ ys) zero x y p q = (λ i. Some (f (some_same p i) (some_same q i)))
answer_at f (a ∷ xs) (b ∷ ys) (suc i) x y p q = answer_at f xs ys i x y p q

pub answers_length : (f : VerificationType → VerificationType → Outcome) (xs ys : List VerificationType) → length xs ≡ length ys → length (answers f xs ys) ≡ length xs
answers_length f [] ys e = refl
answers_length f (x ∷ xs) [] e = absurd (omega (arith, e))
answers_length f (x ∷ xs) (y ∷ ys) e = ap suc (answers_length f xs ys (omega (arith, e)))

drop_next : (rs : List Outcome) (k : ℕ) (r : Outcome) → slice_get rs k ≡ Some r → drop k rs ≡ r ∷ drop (suc k) rs
drop_next [] k r e = absurd (none_some e)
drop_next (q ∷ rs) zero r e = ap (λ x. x ∷ rs) (some_same e)
drop_next (q ∷ rs) (suc k) r e = drop_next rs k r e

pub next : (rs : List Outcome) (k : ℕ) (r : Outcome) → slice_get rs k ≡ Some r → joined (drop k rs) ≡ both r (joined (drop (k + 1) rs))
next rs k r e = let one : suc k ≡ k + 1 = omega arith in ap joined (drop_next rs k r e) ∙ ap (λ j. both r (joined (drop j rs))) one

-- places that all say yes
pub skipped : (rs : List Outcome) (k n : ℕ) → ((j : ℕ) → k ≤ j → j < k + n → slice_get rs j ≡ Some yes) → joined (drop k rs) ≡ joined (drop (k + n) rs)
skipped rs k zero all = let e : k ≡ k + 0 = omega arith in ap (λ j. joined (drop j rs)) e
skipped rs k (suc n) all =
    let e : (k + 1) + n ≡ k + suc n = omega arith in
    next rs k yes (all k (omega arith) (omega arith))
    ∙ skipped rs (k + 1) n (λ j from to. all j (omega (arith, from)) (omega (arith, to)))
    ∙ ap (λ j. joined (drop j rs)) e

-- ---- the steps of a walk along all places

module _ (rs : List Outcome) (r : Outcome) (k : ℕ) (so_far : joined rs ≡ both r (joined (drop k rs))) where
  pub walk_on : (s : Outcome) → slice_get rs k ≡ Some s → joined rs ≡ both (both r s) (joined (drop (k + 1) rs))
  walk_on s e = so_far ∙ ap (both r) (next rs k s e) ∙ sym (both_assoc r s (joined (drop (k + 1) rs)))

  pub walk_no : slice_get rs k ≡ Some no → no ≡ joined rs
  walk_no e = sym (so_far ∙ ap (both r) (next rs k no e) ∙ both_no r)

  pub walk_over : (n : ℕ) → ((j : ℕ) → k ≤ j → j < k + n → slice_get rs j ≡ Some yes) → joined rs ≡ both r (joined (drop (k + n) rs))
  walk_over n all = so_far ∙ ap (both r) (skipped rs k n all)

  pub walk_end : length rs ≤ k → r ≡ joined rs
  walk_end h = sym (so_far ∙ ap (λ xs. both r (joined xs)) (drop_all k rs h) ∙ both_yes r)

-- ---- the places of two frames

module _ (h : List ClassFact) (f g : Frame) (alike : IsAlike (frame_of f) (frame_of g)) where
  abbrev os : List Outcome
  os = slot_answers h (frame_of f) (frame_of g)

  locals_even : length f.locals.items ≡ length g.locals.items
  locals_even = sym (length-map f.locals.items type_of) ∙ alike.0 ∙ length-map g.locals.items type_of

  local_answers : List Outcome
  local_answers = answers (type_answer h) (map type_of f.locals.items) (map type_of g.locals.items)

  typed : (vs : List VType) (i : ℕ) (v : VType) → slice_get vs i ≡ Some v → slice_get (map type_of vs) i ≡ Some (type_of v)
  typed vs i v e = slice_get-map type_of vs i ∙ ap (option_map type_of) e

  turned : (xs : List VerificationType) (i : ℕ) (x : VerificationType) → slice_get xs i ≡ Some x → slice_get (reverse (reverse xs)) i ≡ Some x
  turned xs i x e = ap (λ ys. slice_get ys i) (reverse-reverse xs) ∙ e

  items_even : length f.stack.items ≡ length g.stack.items
  items_even =
      let e : length (reverse (map type_of f.stack.items)) ≡ length (reverse (map type_of g.stack.items)) = alike.1 in
      sym (length-reverse (map type_of f.stack.items) ∙ length-map f.stack.items type_of) ∙ e ∙ length-reverse (map type_of g.stack.items) ∙ length-map g.stack.items type_of

  local_place : (i : ℕ) (x y : VType) → slice_get f.locals.items i ≡ Some x → slice_get g.locals.items i ≡ Some y → slice_get os i ≡ Some (type_answer h (type_of x) (type_of y))
  local_place i x y p q =
      get_first _ _ i _ (answer_at (type_answer h) (map type_of f.locals.items) (map type_of g.locals.items) i (type_of x) (type_of y) (typed f.locals.items i x p) (typed g.locals.items i y q))

  item_place : (i n : ℕ) (x y : VType) → n ≡ length f.locals.items + i → slice_get f.stack.items i ≡ Some x → slice_get g.stack.items i ≡ Some y → slice_get os n ≡ Some (item_answer h (type_of x) (type_of y))
  item_place i n x y e p q =
      let long = answers_length (type_answer h) (map type_of f.locals.items) (map type_of g.locals.items) alike.0 ∙ length-map f.locals.items type_of in
      get_behind _ _ i n _ (omega (arith, e, long))
      (answer_at (item_answer h) (reverse (reverse (map type_of f.stack.items))) (reverse (reverse (map type_of g.stack.items))) i (type_of x) (type_of y)
      (turned (map type_of f.stack.items) i (type_of x) (typed f.stack.items i x p)) (turned (map type_of g.stack.items) i (type_of y) (typed g.stack.items i y q)))

  pub local_read : (i : ℕ) (x y : VType) → i < length f.locals.items → x ≡ get_or f.locals.items i x → y ≡ get_or g.locals.items i y → slice_get os i ≡ Some (type_answer h (type_of x) (type_of y))
  local_read i x y lt p q =
      local_place i x y (slice_get_read f.locals.items (length f.locals.items) i x refl lt p) (slice_get_read g.locals.items (length g.locals.items) i y refl (omega (arith, locals_even, lt)) q)

  pub item_read : (i n : ℕ) (x y : VType) → n ≡ length f.locals.items + i → i < length f.stack.items → x ≡ get_or f.stack.items i x → y ≡ get_or g.stack.items i y → slice_get os n ≡ Some (item_answer h (type_of x) (type_of y))
  item_read i n x y e lt p q =
      item_place i n x y e (slice_get_read f.stack.items (length f.stack.items) i x refl lt p) (slice_get_read g.stack.items (length g.stack.items) i y refl (omega (arith, items_even, lt)) q)

  pub os_length : length os ≡ length f.locals.items + length f.stack.items
  os_length =
      let items = map type_of f.stack.items in
      let others = map type_of g.stack.items in
      let k : length (reverse (reverse items)) ≡ length (reverse (reverse others)) = length-reverse (reverse items) ∙ alike.1 ∙ sym (length-reverse (reverse others)) in
      let first = answers_length (type_answer h) (map type_of f.locals.items) (map type_of g.locals.items) alike.0 ∙ length-map f.locals.items type_of in
      let second = answers_length (item_answer h) (reverse (reverse items)) (reverse (reverse others)) k ∙ length-reverse (reverse items) ∙ length-reverse items ∙ length-map f.stack.items type_of in
      length-append _ _ ∙ (λ i. first i + second i)

  -- ---- equal slots

  abbrev xs : List VerificationType
  xs = types_of (frame_of f)

  abbrev ys : List VerificationType
  ys = types_of (frame_of g)

  -- where the types are equal, the answer is yes
  yes_at : (k : ℕ) → k < length f.locals.items + length f.stack.items → get_or xs k top ≡ get_or ys k top → slice_get os k ≡ Some yes
  yes_at k lt e =
      let ls = map type_of f.locals.items in
      let ms = map type_of g.locals.items in
      let items = map type_of f.stack.items in
      let others = map type_of g.stack.items in
      let count = length-map f.locals.items type_of in
      let count_2 = length-map g.locals.items type_of in
      let deep = length-map f.stack.items type_of in
      let deep_2 = length-map g.stack.items type_of in
      let even = locals_even in
      let level = items_even in
      elim (cases_lt k (length f.locals.items)) [
        | inl low ↦
            let x = get_or ls k top in
            let y = get_or ms k top in
            let same : x ≡ y = sym (get_or_append_left ls _ top k (omega (arith, count, low))) ∙ e ∙ get_or_append_left ms _ top k (omega (arith, count_2, even, low)) in
            get_first _ _ k _ (answer_at (type_answer h) ls ms k x y (slice_get-get_or ls k top (omega (arith, count, low))) (slice_get-get_or ms k top (omega (arith, count_2, even, low))))
            ∙ ap (λ t. Some (type_answer h x t)) (sym same) ∙ ap Some (type_itself h x)
        | inr high ↦
            let i = k - length f.locals.items in
            let x = get_or (reverse (reverse items)) i top in
            let y = get_or (reverse (reverse others)) i top in
            let same : x ≡ y =
            sym (get_or-append_right ls (reverse (reverse items)) (length f.locals.items) k top count high) ∙ e ∙ get_or-append_right ms (reverse (reverse others)) (length f.locals.items) k top (count_2 ∙ sym even) high in
            let long = answers_length (type_answer h) ls ms alike.0 ∙ count in
            let long_items : length (reverse (reverse items)) ≡ length f.stack.items = length-reverse (reverse items) ∙ length-reverse items ∙ deep in
            let long_others : length (reverse (reverse others)) ≡ length f.stack.items = length-reverse (reverse others) ∙ length-reverse others ∙ deep_2 ∙ sym level in
            get_behind _ _ i k _ (omega (arith, long, high))
            (answer_at (item_answer h) (reverse (reverse items)) (reverse (reverse others)) i x y (slice_get-get_or (reverse (reverse items)) i top (omega (arith, long_items, lt, high))) (slice_get-get_or (reverse (reverse others)) i top (omega (arith, long_others, lt, high))))
            ∙ ap (λ t. Some (item_answer h x t)) (sym same) ∙ ap Some (item_itself h x)
      ]

  xs_length : length xs ≡ length f.locals.items + length f.stack.items
  xs_length =
      let first = length-map f.locals.items type_of in
      let second = length-reverse (reverse (map type_of f.stack.items)) ∙ length-reverse (map type_of f.stack.items) ∙ length-map f.stack.items type_of in
      length-append _ _ ∙ (λ i. first i + second i)

  ys_length : length ys ≡ length f.locals.items + length f.stack.items
  ys_length =
      let first = length-map g.locals.items type_of ∙ sym locals_even in
      let second = length-reverse (reverse (map type_of g.stack.items)) ∙ length-reverse (map type_of g.stack.items) ∙ length-map g.stack.items type_of ∙ sym items_even in
      length-append _ _ ∙ (λ i. first i + second i)

  -- a decided place of the rows
  module _ (a b : List ℕ) (first : a ≡ slots_of h (frame_of f)) (second : b ≡ slots_of h (frame_of g)) where
    pub row_length : length a ≡ length f.locals.items + length f.stack.items
    row_length = ap length first ∙ length-map xs (slot_of h) ∙ xs_length

    pub row_length_2 : length b ≡ length f.locals.items + length f.stack.items
    row_length_2 = ap length second ∙ length-map ys (slot_of h) ∙ ys_length

    decided_parts : (m n : ℕ) → is_undecided m n ≡ false → (m ≡ n) × (n ≡ absent_slot → ⊥)
    decided_parts m n e = by (nat_eq m n) refl (nat_eq n absent_slot) refl e
      where
        by : (t : Bool) → nat_eq m n ≡ t → (u : Bool) → nat_eq n absent_slot ≡ u → (not t || u) ≡ false → (m ≡ n) × (n ≡ absent_slot → ⊥)
        by true p false q e = (eqb-true m n p, eqb-false n absent_slot q)
        by true p true q e = absurd (true≢false e)
        by false p u q e = absurd (true≢false e)

    pub decided_yes : (k : ℕ) → k < length a → is_undecided (get_or a k 0) (get_or b k 0) ≡ false → slice_get os k ≡ Some yes
    decided_yes k lt e =
        let long = row_length in
        let d = decided_parts (get_or a k 0) (get_or b k 0) e in
        let lx = xs_length in
        let ly = ys_length in
        let p : get_or a k 0 ≡ slot_of h (get_or xs k top) = ap (λ r. get_or r k 0) first ∙ get_or-map (slot_of h) xs k top 0 (omega (arith, long, lx, lt)) in
        let q : get_or b k 0 ≡ slot_of h (get_or ys k top) = ap (λ r. get_or r k 0) second ∙ get_or-map (slot_of h) ys k top 0 (omega (arith, long, ly, lt)) in
        yes_at k (omega (arith, long, lt)) (equal_types h (get_or xs k top) (get_or ys k top) (sym p ∙ d.0 ∙ q) (λ f. d.1 (q ∙ f)))
