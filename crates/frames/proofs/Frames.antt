-- The answers for frames, by the definitions of assignability.
use Rattle.std.proofs.Common.{◌≡◌, ◌≢◌, ◌⊎◌, ◌↔◌, ◌∙◌, ◌==◌, ℕ, zero, suc, ◌<◌, ◌≤◌, List, [], ◌∷◌, ◌++◌, Bool, true, false, Some, length, reverse, slice_get, eq-eqb, refl, sym, ap, subst, inl, inr, arith}
use Rattle.std.proofs.lemmas.Bool.{false≢true, cases_lt, eqb-true, eqb-false}
use Rattle.std.proofs.lemmas.List.{length-reverse, reverse-reverse}
use Rattle.hierarchy.specs.Class.{ClassFact}
use Rattle.hierarchy.specs.Answer.{Outcome, yes, no, missing, yes_if}
use Rattle.frames.specs.VerificationType.{VerificationType}
use Rattle.frames.specs.FrameFact.{FrameFact}
use Rattle.frames.specs.Assignable.{type_answer}
use Rattle.frames.specs.FrameAssignable.{both, width_of, item_answer, list_answer, stack_answer, flag_answer, frame_answer}
use Rattle.frames.specs.PackedFrames.{joined}
use Rattle.frames.specs.Meaning.{IsAlike, answers, slot_answers, FrameAnswer}
use Rattle.frames.proofs.Slots.{both_no, both_assoc, list_uneven, stack_uneven, stack_reverse}
use Rattle.hierarchy.proofs.Names.{some_same, same_some, none_some}
use Rattle.frames.proofs.Types.{type_itself, no_is_yes}

joined_append : (rs ss : List Outcome) → joined (rs ++ ss) ≡ both (joined rs) (joined ss)
joined_append [] ss = refl
joined_append (r ∷ rs) ss = ap (both r) (joined_append rs ss) ∙ sym (both_assoc r (joined rs) (joined ss))

pub list_joined : (f : VerificationType → VerificationType → Outcome) (xs ys : List VerificationType) → length xs ≡ length ys → list_answer f xs ys ≡ joined (answers f xs ys)
list_joined f [] [] e = refl
list_joined f [] (y ∷ ys) e = absurd (omega arith)
list_joined f (x ∷ xs) [] e = absurd (omega arith)
list_joined f (x ∷ xs) (y ∷ ys) e = ap (both (f x y)) (list_joined f xs ys (omega arith))

-- what many answers as one mean
abbrev pub RowAnswer : List Outcome → Outcome → Type 0
RowAnswer rs yes = (i : ℕ) (r : Outcome) → slice_get rs i ≡ Some r → r ≡ yes
RowAnswer rs no = (i : ℕ) × (slice_get rs i ≡ Some no)
RowAnswer rs (missing name) = ((i : ℕ) → slice_get rs i ≢ Some no) × ((i : ℕ) × (slice_get rs i ≡ Some (missing name)) × ((j : ℕ) → j < i → slice_get rs j ≡ Some yes))

not_yes_no : Some yes ≡ Some no → ⊥
not_yes_no e = cc

not_missing_no : (n : List ℕ) → Some (missing n) ≡ Some no → ⊥
not_missing_no n e = cc

missing_is_yes : (n : List ℕ) → missing n ≡ yes → ⊥
missing_is_yes n e = cc

missing_same : {m n : List ℕ} → missing m ≡ missing n → m ≡ n
missing_same e = cc

module _ (rs : List Outcome) where
  all_more : ((i : ℕ) (r : Outcome) → slice_get rs i ≡ Some r → r ≡ yes) → (i : ℕ) (r : Outcome) → slice_get (yes ∷ rs) i ≡ Some r → r ≡ yes
  all_more k zero r e = sym (some_same e)
  all_more k (suc i) r e = k i r e

  none_more : (q : Outcome) → (Some q ≡ Some no → ⊥) → ((i : ℕ) → slice_get rs i ≢ Some no) → (i : ℕ) → slice_get (q ∷ rs) i ≢ Some no
  none_more q h k zero e = h e
  none_more q h k (suc i) e = k i e

  before_more : (i : ℕ) → ((j : ℕ) → j < i → slice_get rs j ≡ Some yes) → (j : ℕ) → j < suc i → slice_get (yes ∷ rs) j ≡ Some yes
  before_more i k zero h = refl
  before_more i k (suc j) h = k j (omega arith)

  row_more : (r s : Outcome) → RowAnswer rs s → RowAnswer (r ∷ rs) (both r s)
  row_more yes yes p = all_more p
  row_more yes no p = (suc p.0, p.1)
  row_more yes (missing n) p = (none_more yes not_yes_no p.0, (suc p.1.0, p.1.1, before_more p.1.0 p.1.2))
  row_more no s p = (zero, refl)
  row_more (missing n) yes p = (none_more (missing n) (not_missing_no n) (λ i e. no_is_yes (p i no e)), (zero, refl, λ j h. absurd (omega arith)))
  row_more (missing n) no p = (suc p.0, p.1)
  row_more (missing n) (missing m) p = (none_more (missing n) (not_missing_no n) p.0, (zero, refl, λ j h. absurd (omega arith)))

  row_missing : (m n : List ℕ) → RowAnswer rs (missing m) → RowAnswer rs (missing n) → m ≡ n
  row_missing m n p q = by (cases_lt p.1.0 q.1.0) (cases_lt q.1.0 p.1.0)
    where
      by : (p.1.0 < q.1.0) ⊎ (q.1.0 ≤ p.1.0) → (q.1.0 < p.1.0) ⊎ (p.1.0 ≤ q.1.0) → m ≡ n
      by (inl l) _ = absurd (missing_is_yes m (same_some p.1.1 (q.1.2 p.1.0 l)))
      by (inr l) (inl k) = absurd (missing_is_yes n (same_some q.1.1 (p.1.2 q.1.0 k)))
      by (inr l) (inr k) =
          let e : p.1.0 ≡ q.1.0 = omega arith in
          missing_same (same_some (sym (ap (slice_get rs) e) ∙ p.1.1) q.1.1)

  row_one : (r s : Outcome) → RowAnswer rs r → RowAnswer rs s → r ≡ s
  row_one yes yes p q = refl
  row_one yes no p q = absurd (no_is_yes (p q.0 no q.1))
  row_one yes (missing n) p q = absurd (missing_is_yes n (p q.1.0 (missing n) q.1.1))
  row_one no yes p q = absurd (no_is_yes (q p.0 no p.1))
  row_one no no p q = refl
  row_one no (missing n) p q = absurd (q.0 p.0 p.1)
  row_one (missing n) yes p q = absurd (missing_is_yes n (q p.1.0 (missing n) p.1.1))
  row_one (missing n) no p q = absurd (p.0 q.0 q.1)
  row_one (missing m) (missing n) p q = ap missing (row_missing m n p q)

pub row_holds : (rs : List Outcome) → RowAnswer rs (joined rs)
row_holds [] = λ i r e. absurd (none_some e)
row_holds (r ∷ rs) = row_more rs r (joined rs) (row_holds rs)

flag_yes : (a b : Bool) → (a ≡ true → b ≡ true) → flag_answer a b ≡ yes
flag_yes false b h = refl
flag_yes true true h = refl
flag_yes true false h = absurd (false≢true (h refl))

flag_no : (a b : Bool) → flag_answer a b ≡ no → (a ≡ true → b ≡ true) → ⊥
flag_no false b e h = cc
flag_no true true e h = cc
flag_no true false e h = false≢true (h refl)

module _ (h : List ClassFact) (f g : FrameFact) where
  pub alike_answer : IsAlike f g → frame_answer h f g ≡ joined (slot_answers h f g)
  alike_answer a =
      let e : length (reverse f.stack) ≡ length (reverse g.stack) = length-reverse f.stack ∙ a.1 ∙ sym (length-reverse g.stack) in
      let stack = stack_reverse (item_answer h) (reverse f.stack) (reverse g.stack) e in
      let items : stack_answer (item_answer h) f.stack g.stack ≡ joined (answers (item_answer h) (reverse f.stack) (reverse g.stack)) =
      ap (λ xs. stack_answer (item_answer h) xs g.stack) (sym (reverse-reverse f.stack)) ∙ ap (λ ys. stack_answer (item_answer h) (reverse (reverse f.stack)) ys) (sym (reverse-reverse g.stack))
      ∙ stack ∙ list_joined (item_answer h) (reverse f.stack) (reverse g.stack) e in
      let locals = list_joined (type_answer h) f.locals g.locals a.0 in
      ap (λ r. both r (both (list_answer (type_answer h) f.locals g.locals) (stack_answer (item_answer h) f.stack g.stack))) (flag_yes f.flag g.flag a.2)
      ∙ ap (λ r. both r (stack_answer (item_answer h) f.stack g.stack)) locals
      ∙ ap (both (joined (answers (type_answer h) f.locals g.locals))) items
      ∙ sym (joined_append (answers (type_answer h) f.locals g.locals) (answers (item_answer h) (reverse f.stack) (reverse g.stack)))

  of_row : (r : Outcome) → IsAlike f g → RowAnswer (slot_answers h f g) r → FrameAnswer h f g r
  of_row yes a p = (a, p)
  of_row no a p = inr p
  of_row (missing n) a p = (a, p.0, p.1)

  row_of : (r : Outcome) → IsAlike f g → FrameAnswer h f g r → RowAnswer (slot_answers h f g) r
  row_of yes a p = p.1
  row_of no a (inl k) = absurd (k a)
  row_of no a (inr p) = p
  row_of (missing n) a p = (p.1, p.2)

  frame_holds : FrameAnswer h f g (frame_answer h f g)
  frame_holds = by (flag_answer f.flag g.flag) refl (length f.locals == length g.locals) refl (length f.stack == length g.stack) refl
    where
      no_frame : frame_answer h f g ≡ no → (IsAlike f g → ⊥) → FrameAnswer h f g (frame_answer h f g)
      no_frame e k = subst (FrameAnswer h f g) (sym e) (inl k)

      flags : Outcome
      flags = flag_answer f.flag g.flag

      uneven_locals : length f.locals ≢ length g.locals → frame_answer h f g ≡ no
      uneven_locals k = ap (λ r. both (flag_answer f.flag g.flag) (both r (stack_answer (item_answer h) f.stack g.stack))) (list_uneven (type_answer h) f.locals g.locals k) ∙ both_no (flag_answer f.flag g.flag)

      uneven_stack : length f.stack ≢ length g.stack → frame_answer h f g ≡ no
      uneven_stack k = ap (λ r. both (flag_answer f.flag g.flag) (both (list_answer (type_answer h) f.locals g.locals) r)) (stack_uneven (item_answer h) f.stack g.stack k) ∙ ap (both (flag_answer f.flag g.flag)) (both_no (list_answer (type_answer h) f.locals g.locals)) ∙ both_no (flag_answer f.flag g.flag)

      flag_of : (a b : Bool) → flag_answer a b ≡ yes → a ≡ true → b ≡ true
      flag_of true true e k = refl
      flag_of true false e k = absurd (no_is_yes e)
      flag_of false b e k = absurd (false≢true k)

      never : (a b : Bool) (n : List ℕ) → flag_answer a b ≡ missing n → ⊥
      never false b n e = cc
      never true true n e = cc
      never true false n e = cc

      by : (r : Outcome) → flag_answer f.flag g.flag ≡ r → (t : Bool) → (length f.locals == length g.locals) ≡ t → (u : Bool) → (length f.stack == length g.stack) ≡ u → FrameAnswer h f g (frame_answer h f g)
      by no p t q u s = no_frame (ap (λ r. both r (both (list_answer (type_answer h) f.locals g.locals) (stack_answer (item_answer h) f.stack g.stack))) p) (λ a. flag_no f.flag g.flag p a.2)
      by (missing n) p t q u s = absurd (never f.flag g.flag n p)
      by yes p false q u s = no_frame (uneven_locals (eqb-false (length f.locals) (length g.locals) q)) (λ a. eqb-false (length f.locals) (length g.locals) q a.0)
      by yes p true q false s = no_frame (uneven_stack (eqb-false (length f.stack) (length g.stack) s)) (λ a. eqb-false (length f.stack) (length g.stack) s a.1)
      by yes p true q true s =
          let a : IsAlike f g = (eqb-true (length f.locals) (length g.locals) q, eqb-true (length f.stack) (length g.stack) s, flag_of f.flag g.flag p) in
          subst (FrameAnswer h f g) (sym (alike_answer a)) (of_row (joined (slot_answers h f g)) a (row_holds (slot_answers h f g)))

  frame_one : (r s : Outcome) → FrameAnswer h f g r → FrameAnswer h f g s → r ≡ s
  frame_one yes s p q = row_one (slot_answers h f g) yes s p.1 (row_of s p.0 q)
  frame_one (missing n) s p q = row_one (slot_answers h f g) (missing n) s (p.1, p.2) (row_of s p.0 q)
  frame_one no yes p q = row_one (slot_answers h f g) no yes (row_of no q.0 p) q.1
  frame_one no no p q = refl
  frame_one no (missing n) p q = row_one (slot_answers h f g) no (missing n) (row_of no q.0 p) (q.1, q.2)

pub one_frame_answer : (h : List ClassFact) (f g : FrameFact) (r : Outcome) → FrameAnswer h f g r ↔ (r ≡ frame_answer h f g)
one_frame_answer h f g r = (λ p. frame_one h f g r (frame_answer h f g) p (frame_holds h f g), λ e. subst (FrameAnswer h f g) (sym e) (frame_holds h f g))

pub list_itself : (h : List ClassFact) (xs : List VerificationType) → list_answer (type_answer h) xs xs ≡ yes
list_itself h [] = refl
list_itself h (x ∷ xs) = ap (λ r. both r (list_answer (type_answer h) xs xs)) (type_itself h x) ∙ list_itself h xs

pub item_itself : (h : List ClassFact) (x : VerificationType) → item_answer h x x ≡ yes
item_itself h x = ap (λ t. both (yes_if t) (type_answer h x x)) (eq-eqb (width_of x) (width_of x) refl) ∙ type_itself h x

stack_itself : (h : List ClassFact) (xs : List VerificationType) → stack_answer (item_answer h) xs xs ≡ yes
stack_itself h [] = refl
stack_itself h (x ∷ xs) = ap (λ r. both r (item_answer h x x)) (stack_itself h xs) ∙ item_itself h x

pub frame_itself : (h : List ClassFact) (f : FrameFact) → frame_answer h f f ≡ yes
frame_itself h f =
    ap (λ r. both r (both (list_answer (type_answer h) f.locals f.locals) (stack_answer (item_answer h) f.stack f.stack))) (flag_yes f.flag f.flag (λ e. e))
    ∙ ap (λ r. both r (stack_answer (item_answer h) f.stack f.stack)) (list_itself h f.locals) ∙ stack_itself h f.stack
