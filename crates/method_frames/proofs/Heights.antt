-- Declared stacks, by their rows and how high they are.
use Rattle.std.proofs.Common.{◌≡◌, ◌∙◌, ℕ, suc, ◌+◌, ◌<◌, ◌≤◌, ◌⊎◌, zero, List, [], ◌∷◌, ◌++◌, Some, length, map, take, get_or, slice_get, reverse, refl, sym, ap, ap₂, subst, inl, inr, arith}
use Rattle.std.proofs.lemmas.Option.{same_Some, slice_get_read}
use Rattle.std.proofs.lemmas.List.{length-map, length-append, length-reverse, length-take-le, get_or-map, get_or_append_left, get_or_push, map_push, reverse-reverse, ext_get_or, get_or-take}
use Rattle.frames.specs.Slots.{units_of}
use Rattle.frames.proofs.Units.{units_reverse}
use Rattle.type_numbers.specs.Numbers.{Numbering}
use Rattle.type_numbers.specs.Decoding.{types_by}
use Rattle.method_frames.specs.NumberedRows.{NumberedRows, declared_in}
use Rattle.method_frames.specs.NumberedStacks.{NumberedStacks, declared_stack}
use Rattle.method_frames.specs.private.Counted.{IsCounted}
use Rattle.method_frames.specs.private.Stacks.{stack_at, stacks_of, IsHeight, AreStacks}
use Rattle.method_frames.specs.declared.stack_rows.Height.{Height}
use Rattle.method_frames.proofs.Counting.{types_reverse}

-- an element of a list with one more after is one of the list, or that one
pub get_end : {A : Type 0} (xs : List A) (x : A) (i : ℕ) (y : A) → slice_get (xs ++ x ∷ []) i ≡ Some y → (slice_get xs i ≡ Some y) ⊎ (x ≡ y)
get_end [] x zero y e = inr (same_Some x y e)
get_end [] x (suc i) y e = inl e
get_end (z ∷ xs) x zero y e = inl e
get_end (z ∷ xs) x (suc i) y e = get_end xs x i y e

-- rows that were declared before stay
pub height_kept : (rows new : NumberedRows) (h : Height) → new.declared ≡ rows.declared → length new.running ≡ length rows.running → IsHeight rows h → IsHeight new h
height_kept rows new h d l k = record {
  row = subst (λ ds. h.row < length ds) (sym d) k.row;
  even = ap (λ ds. length (get_or ds h.row [])) d ∙ k.even ∙ sym l;
  depth = omega (arith, k.depth, l);
  tops = λ p le. ap (λ ds. get_or (get_or ds h.row []) p 0) d ∙ k.tops p le;
  counted = subst (λ ds. IsCounted (take h.depth (get_or ds h.row [])) h.wides) (sym d) k.counted;
}

module _ (rows : NumberedRows) where
  abbrev pub declared_more : NumberedRows
  declared_more = record rows { declared = rows.declared ++ rows.running ∷ [] }

  before : (h : Height) → IsHeight rows h → declared_in declared_more h.row ≡ declared_in rows h.row
  before h k = get_or_append_left rows.declared (rows.running ∷ []) [] h.row k.row

  pub height_before : (h : Height) → IsHeight rows h → IsHeight declared_more h
  height_before h k =
      let more = length-append rows.declared (rows.running ∷ []) in
      record {
        row = omega (arith, k.row, more);
        even = ap length (before h k) ∙ k.even;
        depth = k.depth;
        tops = λ p le. ap (λ r. get_or r p 0) (before h k) ∙ k.tops p le;
        counted = subst (λ r. IsCounted (take h.depth r) h.wides) (sym (before h k)) k.counted;
      }

  pub stack_before : (h : Height) → IsHeight rows h → stack_at declared_more h ≡ stack_at rows h
  stack_before h k = ap (λ r. reverse (take h.depth r)) (before h k)

  pub stacks_before : (hs : List Height) → ((k : ℕ) (h : Height) → slice_get hs k ≡ Some h → IsHeight rows h) → map (stack_at declared_more) hs ≡ map (stack_at rows) hs
  stacks_before [] all = refl
  stacks_before (h ∷ hs) all = ap₂ (λ x xs. x ∷ xs) (stack_before h (all 0 h refl)) (stacks_before hs (λ k g e. all (suc k) g e))

  -- the one that is declared now
  module _ (items : List ℕ) (h : Height) (row : h.row ≡ length rows.declared) (deep : h.depth ≡ length items) (few : length items ≤ length rows.running)
      (same : (k : ℕ) → k < length items → get_or rows.running k 0 ≡ get_or (reverse items) k 0) (tops : (k : ℕ) → length items ≤ k → get_or rows.running k 0 ≡ 0)
      (units : (s : Numbering) → units_of (types_by s items) ≡ length items + h.wides) where
    here : declared_in declared_more h.row ≡ rows.running
    here = get_or_push rows.declared rows.running [] h.row (sym row)

    long : length (take h.depth rows.running) ≡ length items
    long = length-take-le h.depth rows.running (omega (arith, few, deep)) ∙ deep

    held : take h.depth rows.running ≡ reverse items
    held =
        let back = length-reverse items in
        ext_get_or 0 (take h.depth rows.running) (reverse items) (omega (arith, long, back))
        (λ k lt. get_or-take h.depth rows.running k 0 (omega (arith, lt, long, deep)) ∙ same k (omega (arith, lt, long)))

    counted : IsCounted (reverse items) h.wides
    counted = record {
      units = λ s. ap units_of (types_reverse s items) ∙ units_reverse (types_by s items) ∙ units s ∙ ap (λ n. n + h.wides) (sym (length-reverse items));
    }

    pub height_now : IsHeight declared_more h
    height_now =
        let more = length-append rows.declared (rows.running ∷ []) in
        record {
          row = omega (arith, row, more);
          even = ap length here;
          depth = omega (arith, few, deep);
          tops = λ p le. ap (λ r. get_or r p 0) here ∙ tops p (omega (arith, le, deep));
          counted = subst (λ r. IsCounted (take h.depth r) h.wides) (sym here) (subst (λ r. IsCounted r h.wides) (sym held) counted);
        }

    pub stack_now : stack_at declared_more h ≡ items
    stack_now = ap (λ r. reverse (take h.depth r)) here ∙ ap reverse held ∙ reverse-reverse items

    pub heights_now : (hs : List Height) → ((k : ℕ) (g : Height) → slice_get hs k ≡ Some g → IsHeight rows g) → (k : ℕ) (g : Height) → slice_get (hs ++ h ∷ []) k ≡ Some g → IsHeight declared_more g
    heights_now hs all k g e = elim (get_end hs h k g e) [
      | inl old ↦ height_before g (all k g old)
      | inr q ↦ subst (IsHeight declared_more) q height_now
    ]

    pub stacks_now : (hs : List Height) → ((k : ℕ) (g : Height) → slice_get hs k ≡ Some g → IsHeight rows g) → map (stack_at declared_more) (hs ++ h ∷ []) ≡ map (stack_at rows) hs ++ items ∷ []
    stacks_now hs all = map_push (stack_at declared_more) hs h ∙ ap₂ (λ xs x. xs ++ x ∷ []) (stacks_before hs all) stack_now

-- ---- one of them, by its place

module _ (items : List ℕ) (rows : NumberedRows) (written high : ℕ) (hs : List Height) (x : NumberedStacks) (is : stacks_of items rows hs ≡ x) (k : AreStacks items rows written high hs)
    (stack : ℕ) (lt : stack < length x.declared) (h : Height) (read : h ≡ get_or hs stack h) where
  inside : stack < length hs
  inside =
      let long = length-map hs (stack_at rows) in
      let w : stack < length (map (stack_at rows) hs) = subst (λ y. stack < length y.declared) (sym is) lt in
      omega (arith, w, long)

  pub is_height : IsHeight rows h
  is_height = k.declared stack h (slice_get_read hs (length hs) stack h refl inside read)

  pub its_stack : declared_stack x stack ≡ stack_at rows h
  its_stack = ap (λ y. get_or y.declared stack []) (sym is) ∙ get_or-map (stack_at rows) hs stack h [] inside ∙ ap (stack_at rows) (sym read)

  pub its_length : length (declared_stack x stack) ≡ h.depth
  its_length =
      let e = is_height.even in
      let d = is_height.depth in
      ap length its_stack ∙ length-reverse (take h.depth (declared_in rows h.row)) ∙ length-take-le h.depth (declared_in rows h.row) (omega (arith, e, d))

  pub its_units : (s : Numbering) → units_of (types_by s (declared_stack x stack)) ≡ h.depth + h.wides
  its_units s =
      let e = is_height.even in
      let d = is_height.depth in
      let row = take h.depth (declared_in rows h.row) in
      ap (λ ns. units_of (types_by s ns)) its_stack ∙ ap units_of (types_reverse s row) ∙ units_reverse (types_by s row) ∙ is_height.counted.units s
      ∙ ap (λ n. n + h.wides) (length-take-le h.depth (declared_in rows h.row) (omega (arith, e, d)))
