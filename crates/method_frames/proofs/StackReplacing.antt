-- The running stack where another number takes the place of an object's, and one with an item alone.
use Rattle.std.proofs.Common.{◌≡◌, ◌≢◌, ◌∙◌, ℕ, ◌+◌, ◌<◌, ◌≤◌, Bool, true, false, cond, nat_eq, eq-eqb, List, [], ◌∷◌, length, map, take, get_or, reverse, sym, ap, subst, inl, inr, ◌⊎◌, arith}
use Rattle.std.proofs.lemmas.Bool.{true≢false}
use Rattle.std.proofs.lemmas.Bool.Decides.{nat_tests}
use Rattle.std.proofs.lemmas.List.{length-map, take_more}
use Rattle.std.proofs.Math.ListN as lists
use Rattle.hierarchy.specs.Class.{ClassFact}
use Rattle.hierarchy.specs.Answer.{Outcome, no, yes_if}
use Rattle.frames.specs.VerificationType.{VerificationType}
use Rattle.frames.specs.Assignable.{type_answer}
use Rattle.frames.specs.FrameAssignable.{both, width_of, item_answer, stack_answer}
use Rattle.frames.specs.Slots.{units_of}
use Rattle.type_numbers.specs.Numbers.{Numbering, IsGiven}
use Rattle.type_numbers.specs.Decoding.{type_by, types_by}
use Rattle.method_frames.specs.Objects.{is_uninitialized, replaced}
use Rattle.method_frames.specs.NumberedRows.{NumberedRows, declared_in}
use Rattle.method_frames.specs.NumberedStacks.{NumberedStacks, declared_stack}
use Rattle.method_frames.specs.private.KnownRows.{AreGiven}
use Rattle.method_frames.specs.private.Stacks.{stacks_of, IsHeight, AreStacks}
use Rattle.method_frames.specs.declared.stack_rows.Height.{Height}
use Rattle.method_frames.proofs.Counting.{map_reverse}
use Rattle.method_frames.proofs.Heights.{height_kept, is_height, its_stack}
use Rattle.method_frames.proofs.StackComparing.{other_count, other_units}
use Rattle.method_frames.proofs.StackGiven.{pushed_given, none_given}

no_top : (object : ℕ) → is_uninitialized object ≡ true → 0 ≢ object
no_top object o e = true≢false (sym o ∙ ap is_uninitialized (sym e))

-- Top stays, so places beyond a row hold it
pub replaced_at : (object by : ℕ) → is_uninitialized object ≡ true → (row : List ℕ) (p : ℕ) → get_or (map (replaced object by) row) p 0 ≡ replaced object by (get_or row p 0)
replaced_at object by o row p =
    let other : nat_eq 0 object ≡ false = grind (arith, nat_tests, no_top object o) in
    let stays : replaced object by 0 ≡ 0 = ap (λ b. cond b by 0) other in
    subst (λ d. get_or (map (replaced object by) row) p d ≡ replaced object by (get_or row p 0)) stays (lists.get_or-map (replaced object by) row p 0)

module _ (items : List ℕ) (rows new : NumberedRows) (written high : ℕ) (hs : List Height) (k : AreStacks items rows written high hs) (object by : ℕ) (o : is_uninitialized object ≡ true)
    (rest : new ≡ record rows { running = new.running }) (size : length new.running ≡ length rows.running)
    (each : (p : ℕ) → (get_or new.running p 0 ≡ get_or rows.running p 0) ⊎ ((get_or rows.running p 0 ≡ object) × (get_or new.running p 0 ≡ by))) where
  tops_stay : (p : ℕ) → high ≤ p → (get_or new.running p 0 ≡ get_or rows.running p 0) ⊎ ((get_or rows.running p 0 ≡ object) × (get_or new.running p 0 ≡ by)) → get_or new.running p 0 ≡ 0
  tops_stay p le (inl e) = e ∙ k.tops p le
  tops_stay p le (inr e) = absurd (no_top object o (sym (k.tops p le) ∙ e.0))

  pub stacks_partly : AreStacks items new 0 high hs
  stacks_partly = record {
    given = subst (λ s. AreGiven s items) (sym (ap (λ r. r.types) rest)) k.given;
    few = omega arith;
    low = omega (arith, k.low, size);
    same = λ p lt. absurd (omega (arith, lt));
    tops = λ p le. tops_stay p le (each p);
    declared = λ j g e. height_kept rows new g (ap (λ r. r.declared) rest) size (k.declared j g e);
  }

  module _ (given : IsGiven rows.types by) (whole : new.running ≡ map (replaced object by) rows.running) (news : List ℕ) (all : news ≡ map (replaced object by) items) where
    item_given : (n : ℕ) → IsGiven rows.types n → IsGiven rows.types (replaced object by n)
    item_given n h = which (nat_eq n object)
      where
        which : (b : Bool) → IsGiven rows.types (cond b by n)
        which true = given
        which false = h

    items_given : (xs : List ℕ) → AreGiven rows.types xs → AreGiven rows.types (map (replaced object by) xs)
    items_given xs h p lt =
        let long = length-map xs (replaced object by) in
        subst (IsGiven rows.types) (sym (replaced_at object by o xs p)) (item_given (get_or xs p 0) (h p (omega (arith, lt, long))))

    pub stacks_replaced : AreStacks news new written high hs
    stacks_replaced =
        let long = ap length all ∙ length-map items (replaced object by) in
        record {
          given = subst (λ s. AreGiven s news) (sym (ap (λ r. r.types) rest)) (subst (AreGiven rows.types) (sym all) (items_given items k.given));
          few = omega (arith, k.few, long);
          low = omega (arith, k.low, size);
          same = λ p lt. ap (λ r. get_or r p 0) whole ∙ replaced_at object by o rows.running p ∙ ap (replaced object by) (k.same p lt)
              ∙ sym (ap (λ xs. get_or (reverse xs) p 0) all ∙ ap (λ xs. get_or xs p 0) (sym (map_reverse (replaced object by) items)) ∙ replaced_at object by o (reverse items) p);
          tops = λ p le. tops_stay p le (each p);
          declared = λ j g e. height_kept rows new g (ap (λ r. r.declared) rest) size (k.declared j g e);
        }

-- ---- an item alone

even_item : (classes : List ClassFact) (a b : VerificationType) → width_of a ≡ width_of b → item_answer classes a b ≡ type_answer classes a b
even_item classes a b e = ap (λ t. both (yes_if t) (type_answer classes a b)) (eq-eqb (width_of a) (width_of b) e)

module _ (items : List ℕ) (rows : NumberedRows) (written high : ℕ) (hs : List Height) (x : NumberedStacks) (is : stacks_of items rows hs ≡ x) (k : AreStacks items rows written high hs)
    (stack : ℕ) (lt : stack < length x.declared) (h : Height) (read : h ≡ get_or hs stack h) (n : ℕ) (given : IsGiven x.types n) where
  abbrev alone : NumberedStacks
  alone = record x { running = n ∷ [] }

  is_alone : stacks_of (n ∷ []) rows hs ≡ alone
  is_alone = ap {A = NumberedStacks} {B = NumberedStacks} (λ y. record y { running = n ∷ [] }) is

  are_alone : AreStacks (n ∷ []) rows 0 high hs
  are_alone = record {
    given = pushed_given rows.types [] n (none_given rows.types) (subst (λ y. IsGiven y.types n) (sym is) given);
    few = omega arith;
    low = k.low;
    same = λ p q. absurd (omega (arith, q));
    tops = k.tops;
    declared = k.declared;
  }

  abbrev whole_alone : Outcome
  whole_alone = stack_answer (item_answer x.types.classes) (type_by x.types n ∷ []) (types_by x.types (declared_stack x stack))

  pub more_alone : h.depth ≢ 1 → no ≡ whole_alone
  more_alone ne = other_count (n ∷ []) rows 0 high hs alone is_alone are_alone stack lt h read ne

  module _ (deep : h.depth ≡ 1) (w : ℕ) (wide : (s : Numbering) → width_of (type_by s n) ≡ 1 + w) where
    units_alone : (s : Numbering) → units_of (types_by s (n ∷ [])) ≡ length (n ∷ []) + w
    units_alone s = let e = wide s in omega (arith, e)

    pub wider_alone : h.wides ≢ w → no ≡ whole_alone
    wider_alone = other_units (n ∷ []) rows 0 high hs alone is_alone are_alone stack lt h read deep w units_alone

    height : IsHeight rows h
    height = is_height items rows written high hs x is k stack lt h read

    abbrev wanted_item : ℕ
    wanted_item = get_or (declared_in rows h.row) 0 0

    taken_one : take h.depth (declared_in rows h.row) ≡ wanted_item ∷ []
    taken_one = ap (λ d. take d (declared_in rows h.row)) deep ∙ take_more (declared_in rows h.row) 0 0 (omega (arith, height.even, height.depth, deep))

    stack_one : declared_stack x stack ≡ wanted_item ∷ []
    stack_one = its_stack items rows written high hs x is k stack lt h read ∙ ap reverse taken_one

    pub same_alone : h.wides ≡ w → type_answer x.types.classes (type_by x.types n) (type_by x.types wanted_item) ≡ whole_alone
    same_alone same =
        let s = x.types in
        let mine = wide s in
        let theirs = ap (λ ns. units_of (types_by s ns)) (sym taken_one) ∙ height.counted.units s ∙ ap (λ ns. length ns + h.wides) taken_one in
        let level : width_of (type_by s n) ≡ width_of (type_by s wanted_item) = omega (arith, mine, theirs, same) in
        sym (ap (λ ns. stack_answer (item_answer s.classes) (type_by s n ∷ []) (types_by s ns)) stack_one ∙ even_item s.classes (type_by s n) (type_by s wanted_item) level)
