-- Operand stacks as they are kept, and as they change.
use Rattle.std.proofs.Common.{◌≡◌, ◌∙◌, ℕ, ◌+◌, ◌-◌, ◌<◌, ◌≤◌, List, [], ◌∷◌, ◌++◌, length, map, take, drop, get_or, reverse, Result, Ok, Err, OnOk, OnErr, sym, ap, subst, inl, inr, arith}
use Rattle.std.proofs.lemmas.Bool.{cases_lt}
use Rattle.std.proofs.lemmas.List.{length-append, length-reverse, length-drop, length-take-le, take-append-drop, get_or_append_left, get_or_past, get_or-take, reverse-append, reverse-reverse}
use Rattle.insn.specs.Operators.{StackForm}
use Rattle.insn.specs.OperandStacks.{chosen, rearranged}
use Rattle.frames.specs.Slots.{units_of}
use Rattle.type_numbers.specs.Numbers.{Numbering, IsGiven}
use Rattle.type_numbers.specs.Decoding.{types_by}
use Rattle.method_frames.specs.NumberedRows.{NumberedRows, declared_in}
use Rattle.method_frames.specs.NumberedStacks.{NumberedStacks}
use Rattle.method_frames.specs.private.KnownRows.{AreGiven}
use Rattle.method_frames.specs.private.Stacks.{stack_at, stacks_of, IsHeight, AreStacks, Changes, Holds}
use Rattle.method_frames.specs.declared.stack_rows.Height.{Height}
use Rattle.method_frames.proofs.StackGiven.{pushed_given, popped_given, form_given, beneath_drop}
use Rattle.method_frames.proofs.Heights.{height_kept, declared_more, height_before, stacks_before, heights_now, stacks_now}

-- one more on top leaves what is beneath
beneath : (xs : List ℕ) (n k : ℕ) → k < length xs → get_or (reverse (n ∷ xs)) k 0 ≡ get_or (reverse xs) k 0
beneath xs n k lt =
    let long = length-reverse xs in
    ap (λ ys. get_or ys k 0) (reverse-append (n ∷ []) xs) ∙ get_or_append_left (reverse xs) (n ∷ []) 0 k (omega (arith, lt, long))

pub stacks_popped : (items new : List ℕ) (n : ℕ) (rows : NumberedRows) (written high less : ℕ) (hs : List Height) → items ≡ n ∷ new → AreStacks items rows written high hs
    → less ≤ written → less ≤ length new → AreStacks new rows less high hs
stacks_popped items new n rows written high less hs e k le few = record {
  given = popped_given rows.types new n (subst (AreGiven rows.types) e k.given);
  few = few;
  low = k.low;
  same = λ p lt. k.same p (omega (arith, lt, le)) ∙ ap (λ xs. get_or (reverse xs) p 0) e ∙ beneath new n p (omega (arith, lt, few));
  tops = k.tops;
  declared = k.declared;
}

pub stacks_pushed : (items : List ℕ) (n : ℕ) (rows : NumberedRows) (written high : ℕ) (hs : List Height) → AreStacks items rows written high hs → IsGiven rows.types n → AreStacks (n ∷ items) rows written high hs
stacks_pushed items n rows written high hs k given = record {
  given = pushed_given rows.types items n k.given given;
  few = omega (arith, k.few);
  low = k.low;
  same = λ p lt. k.same p lt ∙ sym (beneath items n p (omega (arith, lt, k.few)));
  tops = k.tops;
  declared = k.declared;
}

pub pushed_or_kept : {E : Type 0} (items new : List ℕ) (n : ℕ) (rows : NumberedRows) (written high : ℕ) (hs : List Height) (r : Result Unit E) → AreStacks items rows written high hs → IsGiven rows.types n
    → OnOk r (new ≡ n ∷ items) → OnErr r (new ≡ items) → AreStacks new rows written high hs
pushed_or_kept items new n rows written high hs (Ok u) k given ok err = subst (λ xs. AreStacks xs rows written high hs) (sym ok) (stacks_pushed items n rows written high hs k given)
pushed_or_kept items new n rows written high hs (Err e) k given ok err = subst (λ xs. AreStacks xs rows written high hs) (sym err) k

-- ---- items are moved

module _ (form : StackForm) (items new : List ℕ) (e : new ≡ rearranged form items) (fits : length form.takes ≤ length items) where
  abbrev left : List ℕ
  left = drop (length form.takes) items

  left_long : length (reverse left) ≡ length items - length form.takes
  left_long = length-reverse left ∙ length-drop (length form.takes) items

  parts : new ≡ chosen items form.leaves ++ left
  parts = e ∙ ap (λ xs. chosen items form.leaves ++ xs) (beneath_drop form.takes items)

  beneath_kept : (p : ℕ) → p < length items - length form.takes → get_or (reverse new) p 0 ≡ get_or (reverse items) p 0
  beneath_kept p lt =
      let low : p < length (reverse left) = omega (arith, lt, left_long) in
      ap (λ xs. get_or (reverse xs) p 0) parts ∙ ap (λ xs. get_or xs p 0) (reverse-append (chosen items form.leaves) left) ∙ get_or_append_left (reverse left) (reverse (chosen items form.leaves)) 0 p low
      ∙ sym (ap (λ xs. get_or (reverse xs) p 0) (sym (take-append-drop (length form.takes) items)) ∙ ap (λ xs. get_or xs p 0) (reverse-append (take (length form.takes) items) left)
      ∙ get_or_append_left (reverse left) (reverse (take (length form.takes) items)) 0 p low)

  pub stacks_rearranged : (rows : NumberedRows) (written high less : ℕ) (hs : List Height) → AreStacks items rows written high hs → less ≤ written → less ≤ length items - length form.takes → AreStacks new rows less high hs
  stacks_rearranged rows written high less hs k le few =
      let long : length new ≡ length (chosen items form.leaves) + length left = ap length parts ∙ length-append (chosen items form.leaves) left in
      record {
        given = subst (AreGiven rows.types) (sym e) (form_given rows.types form items k.given);
        few = omega (arith, few, long, length-drop (length form.takes) items);
        low = k.low;
        same = λ p lt. k.same p (omega (arith, lt, le)) ∙ sym (beneath_kept p (omega (arith, lt, few)));
        tops = k.tops;
        declared = k.declared;
      }

-- ---- the running row is written

module _ (items : List ℕ) (rows new : NumberedRows) (written high to : ℕ) (hs : List Height) (k : AreStacks items rows written high hs) (c : Changes written to rows new) where
  pub stacks_changed : (w h : ℕ) → w ≤ length items → h ≤ length rows.running → ((p : ℕ) → p < w → get_or new.running p 0 ≡ get_or (reverse items) p 0)
      → ((p : ℕ) → h ≤ p → get_or new.running p 0 ≡ 0) → AreStacks items new w h hs
  stacks_changed w h few low same tops = record {
    given = subst (λ s. AreGiven s items) (sym (ap (λ r. r.types) c.rest)) k.given;
    few = few;
    low = omega (arith, low, c.even);
    same = same;
    tops = tops;
    declared = λ j g e. height_kept rows new g (ap (λ r. r.declared) c.rest) c.even (k.declared j g e);
  }

  pub same_below : (p : ℕ) → p < written → get_or new.running p 0 ≡ get_or (reverse items) p 0
  same_below p lt = c.below p lt ∙ k.same p lt

  pub same_written : Holds items written to new → (p : ℕ) → p < to → get_or new.running p 0 ≡ get_or (reverse items) p 0
  same_written held p lt = elim (cases_lt p written) [
    | inl low ↦ same_below p low
    | inr le ↦ held.here p le lt
  ]

  pub tops_above : (h : ℕ) → high ≤ h → to ≤ h → (p : ℕ) → h ≤ p → get_or new.running p 0 ≡ 0
  tops_above h le above p lt = c.above p (omega (arith, above, lt)) ∙ k.tops p (omega (arith, le, lt))

  -- all places up to the highest are written
  pub tops_written : Holds items written to new → high ≤ to → (p : ℕ) → length items ≤ p → get_or new.running p 0 ≡ 0
  tops_written held le p lt =
      let long = length-reverse items in
      elim (cases_lt p to) [
        | inl low ↦ held.here p (omega (arith, k.few, lt)) low ∙ get_or_past (reverse items) p 0 (omega (arith, lt, long))
        | inr high_up ↦ tops_above to le (omega arith) p high_up
      ]

  pub view_changed : (x : NumberedStacks) → stacks_of items rows hs ≡ x → stacks_of items new hs ≡ x
  view_changed x is =
      ap (λ r. stacks_of items r hs) c.rest
      ∙ ap {B = NumberedStacks} (λ n. record { types = rows.types; limit = n; running = items; declared = map (stack_at rows) hs }) c.even ∙ is

-- ---- the running row becomes a declared one

module _ (items : List ℕ) (rows new : NumberedRows) (written high : ℕ) (hs : List Height) (k : AreStacks items rows written high hs) (h : Height) (height : IsHeight rows h) (e : new ≡ record rows { running = declared_in rows h.row }) where
  row : new.running ≡ declared_in rows h.row
  row = ap (λ r. r.running) e

  pub taken_long : length new.running ≡ length rows.running
  taken_long = ap length row ∙ height.even

  pub taken_deep : h.depth ≤ length new.running
  taken_deep = omega (arith, taken_long, height.depth)

  pub stacks_taken : (its : List ℕ) (w : ℕ) → AreGiven new.types its → w ≤ length its → ((p : ℕ) → p < w → get_or new.running p 0 ≡ get_or (reverse its) p 0) → AreStacks its new w h.depth hs
  stacks_taken its w given few same = record {
    given = given;
    few = few;
    low = taken_deep;
    same = same;
    tops = λ p le. ap (λ r. get_or r p 0) row ∙ height.tops p le;
    declared = λ j g q. height_kept rows new g (ap (λ r. r.declared) e) taken_long (k.declared j g q);
  }

  pub all_taken : (its : List ℕ) → AreGiven new.types its → its ≡ reverse (take h.depth new.running) → AreStacks its new h.depth h.depth hs
  all_taken its given q =
      let long : length its ≡ h.depth = ap length q ∙ length-reverse (take h.depth new.running) ∙ length-take-le h.depth new.running taken_deep in
      stacks_taken its h.depth given (omega (arith, long))
      (λ p lt. sym (ap (λ xs. get_or (reverse xs) p 0) q ∙ ap (λ xs. get_or xs p 0) (reverse-reverse (take h.depth new.running)) ∙ get_or-take h.depth new.running p 0 lt))

  pub view_taken : (its : List ℕ) (x : NumberedStacks) → stacks_of items rows hs ≡ x → stacks_of its new hs ≡ record x { running = its }
  view_taken its x is =
      ap (λ r. stacks_of its r hs) e
      ∙ ap {B = NumberedStacks} (λ n. record { types = rows.types; limit = n; running = its; declared = map (stack_at rows) hs }) height.even
      ∙ ap {A = NumberedStacks} {B = NumberedStacks} (λ y. record y { running = its }) is

-- ---- one more is declared

-- all items are written, with Top above
pub stacks_level : (items : List ℕ) (rows new : NumberedRows) (written high to : ℕ) (hs : List Height) → AreStacks items rows written high hs → Changes written to rows new → Holds items written to new
    → high ≤ to → length items ≤ to → to ≤ length rows.running → (depth : ℕ) → depth ≡ length items → AreStacks items new depth depth hs
stacks_level items rows new written high to hs k c held le long low depth d =
    stacks_changed items rows new written high to hs k c depth depth (omega (arith, d)) (omega (arith, d, long, low))
    (λ p lt. same_written items rows new written high to hs k c held p (omega (arith, lt, d, long)))
    (λ p lt. tops_written items rows new written high to hs k c held le p (omega (arith, lt, d)))

module _ (items : List ℕ) (rows : NumberedRows) (written high : ℕ) (hs : List Height) (k : AreStacks items rows written high hs) (new : NumberedRows) (e : new ≡ declared_more rows) (news : List Height) where
  -- the row alone
  module _ (q : news ≡ hs) where
    pub stacks_more : AreStacks items new written high news
    stacks_more =
        let more : AreStacks items (declared_more rows) written high hs = record {
          given = k.given;
          few = k.few;
          low = k.low;
          same = k.same;
          tops = k.tops;
          declared = λ j g f. height_before rows g (k.declared j g f);
        } in
        subst (λ r. AreStacks items r written high news) (sym e) (subst (λ gs. AreStacks items (declared_more rows) written high gs) (sym q) more)

    pub view_more : (x : NumberedStacks) → stacks_of items rows hs ≡ x → stacks_of items new news ≡ x
    view_more x is =
        ap (λ r. stacks_of items r news) e ∙ ap (stacks_of items (declared_more rows)) q
        ∙ ap {B = NumberedStacks} (λ ds. record { types = rows.types; limit = length rows.running; running = items; declared = ds }) (stacks_before rows hs k.declared) ∙ is

  -- and how high it is
  module _ (h : Height) (row : h.row ≡ length rows.declared) (deep : h.depth ≡ length items) (level : written ≡ length items) (top : high ≡ length items)
      (units : (s : Numbering) → units_of (types_by s items) ≡ length items + h.wides) (q : news ≡ hs ++ h ∷ []) where
    few : length items ≤ length rows.running
    few = omega (arith, k.low, top)

    same : (p : ℕ) → p < length items → get_or rows.running p 0 ≡ get_or (reverse items) p 0
    same p lt = k.same p (omega (arith, lt, level))

    tops : (p : ℕ) → length items ≤ p → get_or rows.running p 0 ≡ 0
    tops p le = k.tops p (omega (arith, le, top))

    pub stacks_declared : AreStacks items new written high news
    stacks_declared =
        let more : AreStacks items (declared_more rows) written high (hs ++ h ∷ []) = record {
          given = k.given;
          few = k.few;
          low = k.low;
          same = k.same;
          tops = k.tops;
          declared = heights_now rows items h row deep few same tops units hs k.declared;
        } in
        subst (λ r. AreStacks items r written high news) (sym e) (subst (λ gs. AreStacks items (declared_more rows) written high gs) (sym q) more)

    pub view_declared : (x : NumberedStacks) → stacks_of items rows hs ≡ x → stacks_of items new news ≡ record x { declared = x.declared ++ x.running ∷ [] }
    view_declared x is =
        ap (λ r. stacks_of items r news) e ∙ ap (stacks_of items (declared_more rows)) q
        ∙ ap {B = NumberedStacks} (λ ds. record { types = rows.types; limit = length rows.running; running = items; declared = ds }) (stacks_now rows items h row deep few same tops units hs k.declared)
        ∙ ap {A = NumberedStacks} {B = NumberedStacks} (λ y. record y { declared = y.declared ++ y.running ∷ [] }) is
