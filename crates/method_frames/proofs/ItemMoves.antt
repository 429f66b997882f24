-- The items of a stack by numbers, in place: what is pushed on it, and what is taken off from under that.
use Rattle.std.proofs.Common.{◌≡◌, ℕ, ◌+◌, ◌-◌, ◌<◌, ◌≤◌, List, [], ◌∷◌, ◌++◌, length, get_or, take, drop, reverse, refl, sym, ◌∙◌, ap, arith, Some, slice_get}
use Rattle.std.proofs.lemmas.List.{drop_more, drop_all, reverse-append, length-append, length-reverse, length-drop, take-append-drop, length-take-le, take_rest, append_assoc, get_or-reverse}
use Rattle.std.proofs.Math.Seq.{drop-append-add, take-append_seam}
use Rattle.std.proofs.Math.ListN.{get_or-append}
use Rattle.std.proofs.lemmas.Option.{slice_get-get_or, slice_get_past}
use Rattle.insn.specs.Operators.{StackForm}
use Rattle.insn.specs.OperandStacks.{beneath, chosen, with_item, rearranged}
use Rattle.method_frames.specs.private.Moves.{Pushes}

-- ---- what is pushed

-- the item of a number, as it lies in the vector
pub item_at : (xs : List ℕ) (n i d : ℕ) → n < length xs → i ≡ length xs - 1 - n → slice_get (reverse xs) n ≡ Some (get_or xs i d)
item_at xs n i d lt at =
    let long = length-reverse xs in
    slice_get-get_or (reverse xs) n d (omega (arith, long, lt)) ∙ ap Some (get_or-reverse xs n d lt ∙ ap (λ k. get_or xs k d) (sym at))

-- the last of the vector is the top
top_last : (xs : List ℕ) (n : ℕ) → reverse (xs ++ n ∷ []) ≡ n ∷ reverse xs
top_last xs n = reverse-append xs (n ∷ [])

-- a list by its first item and the slice of the others
pub first_and_others : (ns : List ℕ) (d : ℕ) → 1 ≤ length ns → ns ≡ get_or ns 0 d ∷ take (length ns - 1) (drop 1 ns)
first_and_others [] d le = absurd (omega (arith, le))
first_and_others (n ∷ ns) d le = ap (λ z. n ∷ z) (sym (take_rest (n ∷ ns) 1))

module _ (number : ℕ) (numbers : List ℕ) (old mid : List ℕ) (p : Pushes numbers old mid) where
  pub pushes_item : (i : ℕ) (d : ℕ) (item : ℕ) (new : List ℕ) → number < length old → i ≡ length old - 1 - number → item ≡ get_or mid i d → new ≡ mid ++ item ∷ [] → Pushes (number ∷ numbers) old new
  pushes_item i d item new lt at read pushed = record {
    added = p.added ++ item ∷ [];
    all = pushed ∙ ap (λ z. z ++ item ∷ []) p.all ∙ append_assoc old p.added (item ∷ []);
    are_chosen = top_last p.added item ∙ ap (λ z. item ∷ z) p.are_chosen ∙ sym (ap (λ z. with_item z (chosen (reverse old) numbers)) (item_at old number i d lt at ∙ ap Some (sym (read ∙ ap (λ z. get_or z i d) p.all ∙ get_or-append old p.added d i (omega (arith, lt, at))))));
  }

  pub pushes_none : length old ≤ number → Pushes (number ∷ numbers) old mid
  pushes_none le = record {
    added = p.added;
    all = p.all;
    are_chosen = p.are_chosen ∙ sym (ap (λ z. with_item z (chosen (reverse old) numbers)) (slice_get_past (reverse old) number (omega (arith, le, length-reverse old))));
  }

-- ---- what is taken off

-- the stack while items are taken off from under what was pushed
pub record Removes (numbers : List ℕ) (below counter : ℕ) (old now : List ℕ) : Type 0 where
  pub added : List ℕ
  pub from : below ≤ counter
  pub to : counter ≤ length old
  pub all : now ≡ take below old ++ (drop counter old ++ added)
  pub are_chosen : reverse added ≡ chosen (reverse old) numbers

pub removes_first : (numbers : List ℕ) (below : ℕ) (old now : List ℕ) → below ≤ length old → Pushes numbers old now → Removes numbers below below old now
removes_first numbers below old now le p = record {
  added = p.added;
  from = omega arith;
  to = le;
  all = p.all ∙ ap (λ z. z ++ p.added) (sym (take-append-drop below old)) ∙ append_assoc (take below old) (drop below old) p.added;
  are_chosen = p.are_chosen;
}

module _ (numbers : List ℕ) (below counter : ℕ) (old now : List ℕ) (r : Removes numbers below counter old now) where
  pub removes_room : counter < length old → below < length now
  removes_room lt =
      let e : length now ≡ length (take below old) + (length (drop counter old) + length r.added) = ap length r.all ∙ length-append (take below old) (drop counter old ++ r.added) ∙ ap (λ z. length (take below old) + z) (length-append (drop counter old) r.added) in
      let f : length (take below old) ≡ below = length-take-le below old (omega (arith, r.from, r.to)) in
      let g : length (drop counter old) ≡ length old - counter = length-drop counter old in
      omega (arith, e, f, g, lt)

  pub removes_next : (d : ℕ) (new : List ℕ) → counter < length old → new ≡ take below now ++ drop (below + 1) now → Removes numbers below (counter + 1) old new
  removes_next d new lt e =
      let front = take below old in
      let rest = drop (counter + 1) old ++ r.added in
      let f : length front ≡ below = length-take-le below old (omega (arith, r.from, r.to)) in
      let whole : now ≡ front ++ (get_or old counter d ∷ rest) = r.all ∙ ap (λ z. front ++ (z ++ r.added)) (drop_more old counter d lt) in
      record {
        added = r.added;
        from = omega (arith, r.from);
        to = omega (arith, lt);
        all = e ∙ ap (λ z. take below z ++ drop (below + 1) z) whole
            ∙ ap (λ z. z ++ drop (below + 1) (front ++ (get_or old counter d ∷ rest))) (ap (λ k. take k (front ++ (get_or old counter d ∷ rest))) (sym f) ∙ take-append_seam front (get_or old counter d ∷ rest))
            ∙ ap (λ z. front ++ z) (ap (λ k. drop (k + 1) (front ++ (get_or old counter d ∷ rest))) (sym f) ∙ drop-append-add front (get_or old counter d ∷ rest) 1);
        are_chosen = r.are_chosen;
      }

module _ (numbers : List ℕ) (below counter : ℕ) (old now : List ℕ) (r : Removes numbers below counter old now) where
  front_size : length (take below old) ≡ below
  front_size = length-take-le below old (omega (arith, r.from, r.to))

  pub removes_kept : (k : ℕ) → k ≡ below → take k now ≡ take k old
  removes_kept k e =
      ap (λ z. take z now) e ∙ ap (take below) r.all
      ∙ ap (λ z. take z (take below old ++ (drop counter old ++ r.added))) (sym front_size)
      ∙ take-append_seam (take below old) (drop counter old ++ r.added)
      ∙ ap (λ z. take z old) (sym e)

  pub removes_above : (k : ℕ) → k ≡ below → k ≤ length now
  removes_above k e = omega (arith, e, front_size, ap length r.all ∙ length-append (take below old) (drop counter old ++ r.added))

beneath_front : {A B : Type 0} → (ws : List A) (xs ys : List B) → length ws ≡ length xs → beneath ws (xs ++ ys) ≡ ys
beneath_front [] [] ys e = refl
beneath_front [] (x ∷ xs) ys e = absurd (omega (arith, e))
beneath_front (w ∷ ws) [] ys e = absurd (omega (arith, e))
beneath_front (w ∷ ws) (x ∷ xs) ys e = beneath_front ws xs ys (omega (arith, e))

stack_append : (xs ys : List ℕ) → reverse (xs ++ ys) ≡ reverse ys ++ reverse xs
stack_append xs ys = reverse-append xs ys

pub removes_end : (form : StackForm) (below counter : ℕ) (old now : List ℕ) → length old ≤ counter → below + length form.takes ≡ length old → Removes form.leaves below counter old now → reverse now ≡ rearranged form (reverse old)
removes_end form below counter old now le size r =
    let front = take below old in
    let back = drop below old in
    let f : length back ≡ length old - below = length-drop below old in
    let g : length (reverse back) ≡ length back = length-reverse back in
    let whole : reverse old ≡ reverse back ++ reverse front = ap reverse (sym (take-append-drop below old)) ∙ stack_append front back in
    ap reverse (r.all ∙ ap (λ z. front ++ (z ++ r.added)) (drop_all counter old le)) ∙ stack_append front r.added
    ∙ ap (λ z. z ++ reverse front) r.are_chosen
    ∙ ap (λ z. chosen (reverse old) form.leaves ++ z) (sym (ap (beneath form.takes) whole ∙ beneath_front form.takes (reverse back) (reverse front) (omega (arith, f, g, size))))
