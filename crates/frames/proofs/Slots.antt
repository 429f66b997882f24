-- Slots one by one, from one place to the next.
use Rattle.std.proofs.Common.{◌≡◌, ◌≢◌, ◌∙◌, ℕ, suc, ◌<◌, ◌≤◌, ◌+◌, List, [], ◌∷◌, ◌++◌, map, length, drop, get_or, reverse, refl, sym, ap, arith, add-one, drop-cons}
use Rattle.std.proofs.lemmas.List.{length-map, length-reverse, reverse-append, drop_all}
use Rattle.hierarchy.specs.Answer.{Outcome, yes, no, missing}
use Rattle.frames.specs.declared.vtype.VType.{VType}
use Rattle.frames.specs.VerificationType.{VerificationType, type_of}
use Rattle.frames.specs.declared.frame.Frame.{Frame}
use Rattle.frames.specs.FrameFact.{frame_of}
use Rattle.frames.specs.Assignable.{type_answer}
use Rattle.frames.specs.FrameAssignable.{both, item_answer, list_answer, stack_answer, flag_answer, frame_answer}
use Rattle.hierarchy.specs.Class.{ClassFact}

pub both_no : (r : Outcome) → both r no ≡ no
both_no yes = refl
both_no no = refl
both_no (missing name) = refl

pub both_yes : (r : Outcome) → both r yes ≡ r
both_yes yes = refl
both_yes no = refl
both_yes (missing name) = refl

pub both_assoc : (r s t : Outcome) → both (both r s) t ≡ both r (both s t)
both_assoc yes s t = refl
both_assoc no s t = refl
both_assoc (missing name) yes t = refl
both_assoc (missing name) no t = refl
both_assoc (missing name) (missing _) yes = refl
both_assoc (missing name) (missing _) no = refl
both_assoc (missing name) (missing _) (missing _) = refl

stack_length : (xs : List VType) → length (reverse (map type_of xs)) ≡ length xs
stack_length xs = length-reverse (map type_of xs) ∙ length-map xs type_of

module _ (f : VerificationType → VerificationType → Outcome) where
  -- lists of different lengths
  pub list_uneven : (xs ys : List VerificationType) → length xs ≢ length ys → list_answer f xs ys ≡ no
  list_uneven [] [] h = absurd (h refl)
  list_uneven [] (y ∷ ys) h = refl
  list_uneven (x ∷ xs) [] h = refl
  list_uneven (x ∷ xs) (y ∷ ys) h = ap (both (f x y)) (list_uneven xs ys (λ e. h (ap suc e))) ∙ both_no (f x y)

  pub stack_uneven : (xs ys : List VerificationType) → length xs ≢ length ys → stack_answer f xs ys ≡ no
  stack_uneven [] [] h = absurd (h refl)
  stack_uneven [] (y ∷ ys) h = refl
  stack_uneven (x ∷ xs) [] h = refl
  stack_uneven (x ∷ xs) (y ∷ ys) h = ap (λ r. both r (f x y)) (stack_uneven xs ys (λ e. h (ap suc e)))

  -- a stack with one more item at its bottom
  stack_below : (xs ys : List VerificationType) (x y : VerificationType) → length xs ≡ length ys → stack_answer f (xs ++ x ∷ []) (ys ++ y ∷ []) ≡ both (f x y) (stack_answer f xs ys)
  stack_below [] [] x y e = sym (both_yes (f x y))
  stack_below [] (z ∷ ys) x y e = absurd (omega arith)
  stack_below (w ∷ xs) [] x y e = absurd (omega arith)
  stack_below (w ∷ xs) (z ∷ ys) x y e = ap (λ r. both r (f w z)) (stack_below xs ys x y (omega arith)) ∙ both_assoc (f x y) (stack_answer f xs ys) (f w z)

  -- the same items with the bottom first
  pub stack_reverse : (xs ys : List VerificationType) → length xs ≡ length ys → stack_answer f (reverse xs) (reverse ys) ≡ list_answer f xs ys
  stack_reverse [] [] e = refl
  stack_reverse [] (y ∷ ys) e = absurd (omega arith)
  stack_reverse (x ∷ xs) [] e = absurd (omega arith)
  stack_reverse (x ∷ xs) (y ∷ ys) e =
      let h : length xs ≡ length ys = omega arith in
      let k : length (reverse xs) ≡ length (reverse ys) = length-reverse xs ∙ h ∙ sym (length-reverse ys) in
      rw (reverse-append (x ∷ []) xs, reverse-append (y ∷ []) ys) (stack_below (reverse xs) (reverse ys) x y k ∙ ap (both (f x y)) (stack_reverse xs ys h))

  -- the rest of two lists from a place on
  pub list_next : (xs ys : List VType) (i : ℕ) (d e : VType) (r s : Outcome) → i < length xs → i < length ys → s ≡ f (type_of (get_or xs i d)) (type_of (get_or ys i e)) →
      both r (list_answer f (map type_of (drop i xs)) (map type_of (drop i ys)))
      ≡ both (both r s) (list_answer f (map type_of (drop (i + 1) xs)) (map type_of (drop (i + 1) ys)))
  list_next xs ys i d e r s h k q = rw (q, add-one, drop-cons xs i d, drop-cons ys i e) (sym (both_assoc r (f (type_of (get_or xs i d)) (type_of (get_or ys i e))) (list_answer f (map type_of (drop (suc i) xs)) (map type_of (drop (suc i) ys)))))

  -- two lists, the first one no longer, with nothing left
  pub list_end : (xs ys : List VType) (i : ℕ) (r : Outcome) → length xs ≤ i → length xs ≡ length ys → both r (list_answer f (map type_of (drop i xs)) (map type_of (drop i ys))) ≡ r
  list_end xs ys i r h e =
      let k : length ys ≤ i = omega arith in
      rw (drop_all i xs h, drop_all i ys k) (both_yes r)

module _ (classes : List ClassFact) (f g : Frame) where
  -- stacks of different lengths
  pub frame_uneven : length f.stack.items ≢ length g.stack.items → frame_answer classes (frame_of f) (frame_of g) ≡ no
  frame_uneven h =
      let flags = flag_answer f.flag g.flag in
      let locals = list_answer (type_answer classes) (map type_of f.locals.items) (map type_of g.locals.items) in
      let uneven = stack_uneven (item_answer classes) (reverse (map type_of f.stack.items)) (reverse (map type_of g.stack.items)) (λ e. h (sym (stack_length f.stack.items) ∙ e ∙ stack_length g.stack.items)) in
      ap (λ s. both flags (both locals s)) uneven ∙ ap (both flags) (both_no locals) ∙ both_no flags

  -- the answers for the locals and for the stack make that for the frame
  pub frame_parts : (r s : Outcome) → flag_answer f.flag g.flag ≡ yes → length f.stack.items ≡ length g.stack.items →
      r ≡ list_answer (type_answer classes) (map type_of f.locals.items) (map type_of g.locals.items) →
      s ≡ list_answer (item_answer classes) (map type_of f.stack.items) (map type_of g.stack.items) →
      both r s ≡ frame_answer classes (frame_of f) (frame_of g)
  frame_parts r s e h p q =
      let k : length (map type_of f.stack.items) ≡ length (map type_of g.stack.items) = length-map f.stack.items type_of ∙ h ∙ sym (length-map g.stack.items type_of) in
      let t = stack_reverse (item_answer classes) (map type_of f.stack.items) (map type_of g.stack.items) k in
      rw (e, p, q) (ap (both (list_answer (type_answer classes) (map type_of f.locals.items) (map type_of g.locals.items))) (sym t))
