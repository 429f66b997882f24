-- The first difference of two frames, and the first place at which a class is missing, found place by place.
use Rattle.std.proofs.Common.{◌≡◌, ◌≢◌, ◌∙◌, ℕ, suc, ◌<◌, ◌≤◌, ◌+◌, Bool, true, false, ◌||◌, is_some, nat_eq, List, [], ◌∷◌, map, length, drop, get_or, reverse, Option, Some, None, refl, sym, ap, arith, add-one, drop-cons, if◌then◌else◌, ◌⊎◌, inl, inr, eqb-true, eq-eqb, true≢false}
use Rattle.std.proofs.lemmas.List.{length-reverse, reverse-reverse, drop_all}
use Rattle.std.specs.Option.{option_or, option_map}
use Rattle.hierarchy.specs.Class.{ClassFact}
use Rattle.hierarchy.specs.Answer.{Outcome, yes, no, missing}
use Rattle.frames.specs.declared.vtype.VType.{VType}
use Rattle.frames.specs.VerificationType.{VerificationType, type_of}
use Rattle.frames.specs.FrameFact.{FrameFact}
use Rattle.frames.specs.Assignable.{type_answer}
use Rattle.frames.specs.FrameAssignable.{both, item_answer, list_answer, stack_answer, flag_answer, frame_answer}
use Rattle.frames.specs.Differences.{MismatchFact, DifferenceFact, flag, local, sizes, item, is_no, is_missing, first_mismatch, flag_difference, first_local, first_item, stack_difference, first_difference, missing_place, first_missing, answer_at, DifferencesAreNo, MissingIsFound}
use Rattle.frames.proofs.Slots.{stack_uneven, stack_reverse}

module _ (sought : Outcome → Bool) (f : VerificationType → VerificationType → Outcome) where
  -- the rest of two lists from a place on
  pub mismatch_next : (xs ys : List VType) (i : ℕ) (d e : VType) → i < length xs → i < length ys →
      first_mismatch sought f i (map type_of (drop i xs)) (map type_of (drop i ys))
      ≡ (if sought (f (type_of (get_or xs i d)) (type_of (get_or ys i e))) then Some (record { place = i; from = type_of (get_or xs i d); to = type_of (get_or ys i e) })
      else first_mismatch sought f (i + 1) (map type_of (drop (i + 1) xs)) (map type_of (drop (i + 1) ys)))
  mismatch_next xs ys i d e h k = rw (add-one, drop-cons xs i d h, drop-cons ys i e k) refl

  -- nothing is left of the shorter one
  pub mismatch_end : (xs ys : List VType) (i : ℕ) → (length xs ≤ i) ⊎ (length ys ≤ i) → first_mismatch sought f i (map type_of (drop i xs)) (map type_of (drop i ys)) ≡ None
  mismatch_end xs ys i (inl h) = rw (drop_all i xs h) refl
  mismatch_end xs ys i (inr h) = rw (drop_all i ys h) (none_right (map type_of (drop i xs)))
    where
      none_right : (zs : List VerificationType) → first_mismatch sought f i zs [] ≡ None
      none_right [] = refl
      none_right (z ∷ zs) = refl

-- ---- a difference is there exactly where the answer is no

pub no_both : (a b : Outcome) → is_no (both a b) ≡ (is_no a || is_no b)
no_both yes b = refl
no_both no b = refl
no_both (missing name) yes = refl
no_both (missing name) no = refl
no_both (missing name) (missing _) = refl

pub some_or : {A : Type 0} (a b : Option A) → is_some (option_or a b) ≡ (is_some a || is_some b)
some_or None b = refl
some_or (Some x) b = refl

pub some_map : {A B : Type 0} (k : A → B) (a : Option A) → is_some (option_map k a) ≡ is_some a
some_map k None = refl
some_map k (Some x) = refl

some_if : {A : Type 0} (b : Bool) (x : A) (o : Option A) → is_some (if b then Some x else o) ≡ (b || is_some o)
some_if true x o = refl
some_if false x o = refl

pub some_flag : {A : Type 0} (b : Bool) (d : A) → is_some (if b then Some d else None) ≡ b
some_flag true d = refl
some_flag false d = refl

no_mismatch : (f : VerificationType → VerificationType → Outcome) (place : ℕ) (xs ys : List VerificationType) → length xs ≡ length ys
    → is_no (list_answer f xs ys) ≡ is_some (first_mismatch is_no f place xs ys)
no_mismatch f place [] [] e = refl
no_mismatch f place [] (y ∷ ys) e = absurd (omega arith)
no_mismatch f place (x ∷ xs) [] e = absurd (omega arith)
no_mismatch f place (x ∷ xs) (y ∷ ys) e =
    no_both (f x y) (list_answer f xs ys) ∙ ap (λ b. is_no (f x y) || b) (no_mismatch f (suc place) xs ys (omega arith))
    ∙ sym (some_if (is_no (f x y)) (record { place = place; from = x; to = y }) (first_mismatch is_no f (suc place) xs ys))

module _ (classes : List ClassFact) where
  abbrev items : List VerificationType → List VerificationType → Outcome
  items = stack_answer (item_answer classes)

  -- stacks of one size, with their bottoms first
  stack_turned : (xs ys : List VerificationType) → length (reverse xs) ≡ length (reverse ys) → items xs ys ≡ list_answer (item_answer classes) (reverse xs) (reverse ys)
  stack_turned xs ys even =
      ap (λ zs. items zs ys) (sym (reverse-reverse xs)) ∙ ap (items (reverse (reverse xs))) (sym (reverse-reverse ys)) ∙ stack_reverse (item_answer classes) (reverse xs) (reverse ys) even

  no_stack : (xs ys : List VerificationType) → is_no (items xs ys) ≡ is_some (stack_difference classes (reverse xs) (reverse ys))
  no_stack xs ys = by (nat_eq (length (reverse xs)) (length (reverse ys))) refl
    where
      by : (b : Bool) → nat_eq (length (reverse xs)) (length (reverse ys)) ≡ b
          → is_no (items xs ys) ≡ is_some (option_or (if b then None else Some (sizes (length (reverse xs)) (length (reverse ys)))) (first_item is_no classes (reverse xs) (reverse ys)))
      by true e =
          let even : length (reverse xs) ≡ length (reverse ys) = eqb-true _ _ e in
          let same = stack_turned xs ys even in
          ap is_no same ∙ no_mismatch (item_answer classes) 0 (reverse xs) (reverse ys) even ∙ sym (some_map item _)
      by false e =
          let uneven : length xs ≢ length ys = λ h. true≢false (sym (eq-eqb _ _ (length-reverse xs ∙ h ∙ sym (length-reverse ys))) ∙ e) in
          ap is_no (stack_uneven (item_answer classes) xs ys uneven)

  pub no_difference : (f g : FrameFact) → length f.locals ≡ length g.locals → is_no (frame_answer classes f g) ≡ is_some (first_difference classes f g)
  no_difference f g even =
      let flags = flag_answer f.flag g.flag in
      let locals = list_answer (type_answer classes) f.locals g.locals in
      let stack = items f.stack g.stack in
      let local_one = first_local is_no classes f.locals g.locals in
      let stack_one = stack_difference classes (reverse f.stack) (reverse g.stack) in
      let here : is_no locals ≡ is_some local_one = no_mismatch (type_answer classes) 0 f.locals g.locals even ∙ sym (some_map local _) in
      let both_here : is_no (both locals stack) ≡ is_some (option_or local_one stack_one) =
      no_both locals stack ∙ ap (λ b. b || is_no stack) here ∙ ap (λ b. is_some local_one || b) (no_stack f.stack g.stack) ∙ sym (some_or local_one stack_one) in
      no_both flags (both locals stack) ∙ ap (λ b. b || is_no (both locals stack)) (sym (some_flag (is_no flags) flag))
      ∙ ap (λ b. is_some (flag_difference f.flag g.flag) || b) both_here ∙ sym (some_or (flag_difference f.flag g.flag) (option_or local_one stack_one))

the_no : (a : Outcome) → is_no a ≡ true → a ≡ no
the_no yes e = absurd (true≢false (sym e))
the_no no e = refl
the_no (missing name) e = absurd (true≢false (sym e))

pub the_some : {A : Type 0} (o : Option A) → is_some o ≡ true → (x : A) × (o ≡ Some x)
the_some None e = absurd (true≢false (sym e))
the_some (Some x) e = (x, refl)

pub differences_are_no : DifferencesAreNo
differences_are_no classes f g even =
    let same = no_difference classes f g even in
    ((λ e. the_some (first_difference classes f g) (sym same ∙ ap is_no e)), (λ d. the_no (frame_answer classes f g) (same ∙ ap is_some d.1)))

-- ---- a class is missing exactly where a place asks for it

or_false : (a b : Bool) → a || b ≡ false → (a ≡ false) × (b ≡ false)
or_false true b e = absurd (true≢false e)
or_false false b e = (refl, e)

module _ (f : VerificationType → VerificationType → Outcome) where
  -- the answer at a place that was found, and yes where none was
  abbrev found_answer : Option MismatchFact → Outcome
  found_answer None = yes
  found_answer (Some m) = f m.from m.to

  if_found : (b : Bool) (m : MismatchFact) (o : Option MismatchFact) → is_missing (f m.from m.to) ≡ b → is_missing (found_answer o) ≡ is_some o
      → is_missing (found_answer (if b then Some m else o)) ≡ is_some (if b then Some m else o)
  if_found true m o e k = e
  if_found false m o e k = k

  -- a class is missing at the place that was found
  found_missing : (place : ℕ) (xs ys : List VerificationType) → is_missing (found_answer (first_mismatch is_missing f place xs ys)) ≡ is_some (first_mismatch is_missing f place xs ys)
  found_missing place [] ys = refl
  found_missing place (x ∷ xs) [] = refl
  found_missing place (x ∷ xs) (y ∷ ys) =
      if_found (is_missing (f x y)) (record { place = place; from = x; to = y }) (first_mismatch is_missing f (suc place) xs ys) refl (found_missing (suc place) xs ys)

  one_more : (a r : Outcome) (m : MismatchFact) (o : Option MismatchFact) → f m.from m.to ≡ a → is_no (both a r) ≡ false → (is_no r ≡ false → r ≡ found_answer o)
      → both a r ≡ found_answer (if is_missing a then Some m else o)
  one_more yes r m o e h k = k h
  one_more no r m o e h k = absurd (true≢false h)
  one_more (missing name) yes m o e h k = sym e
  one_more (missing name) no m o e h k = absurd (true≢false h)
  one_more (missing name) (missing _) m o e h k = sym e

  -- lists whose answer is not no have the answer of this place
  list_found : (place : ℕ) (xs ys : List VerificationType) → is_no (list_answer f xs ys) ≡ false → list_answer f xs ys ≡ found_answer (first_mismatch is_missing f place xs ys)
  list_found place [] [] h = refl
  list_found place [] (y ∷ ys) h = absurd (true≢false h)
  list_found place (x ∷ xs) [] h = absurd (true≢false h)
  list_found place (x ∷ xs) (y ∷ ys) h =
      one_more (f x y) (list_answer f xs ys) (record { place = place; from = x; to = y }) (first_mismatch is_missing f (suc place) xs ys) refl h (list_found (suc place) xs ys)

module _ (classes : List ClassFact) where
  abbrev answer_if : Option DifferenceFact → Outcome
  answer_if None = yes
  answer_if (Some d) = answer_at classes d

  both_found : (a b : Outcome) (o p : Option DifferenceFact) → a ≡ answer_if o → b ≡ answer_if p → is_missing a ≡ is_some o → is_no (both a b) ≡ false
      → both a b ≡ answer_if (option_or o p)
  both_found a b None p e k h n = ap (λ r. both r b) e ∙ k
  both_found yes b (Some d) p e k h n = absurd (true≢false (sym h))
  both_found no b (Some d) p e k h n = absurd (true≢false (sym h))
  both_found (missing name) yes (Some d) p e k h n = e
  both_found (missing name) no (Some d) p e k h n = absurd (true≢false n)
  both_found (missing name) (missing _) (Some d) p e k h n = e

  local_found : (o : Option MismatchFact) → found_answer (type_answer classes) o ≡ answer_if (option_map local o)
  local_found None = refl
  local_found (Some m) = refl

  item_found : (o : Option MismatchFact) → found_answer (item_answer classes) o ≡ answer_if (option_map item o)
  item_found None = refl
  item_found (Some m) = refl

  stack_found : (xs ys : List VerificationType) → is_no (items classes xs ys) ≡ false → items classes xs ys ≡ answer_if (first_item is_missing classes (reverse xs) (reverse ys))
  stack_found xs ys fine = by (nat_eq (length (reverse xs)) (length (reverse ys))) refl
    where
      by : (b : Bool) → nat_eq (length (reverse xs)) (length (reverse ys)) ≡ b → items classes xs ys ≡ answer_if (first_item is_missing classes (reverse xs) (reverse ys))
      by true e =
          let same = stack_turned classes xs ys (eqb-true _ _ e) in
          same ∙ list_found (item_answer classes) 0 (reverse xs) (reverse ys) (sym (ap is_no same) ∙ fine)
          ∙ item_found (first_mismatch is_missing (item_answer classes) 0 (reverse xs) (reverse ys))
      by false e =
          let uneven : length xs ≢ length ys = λ h. true≢false (sym (eq-eqb _ _ (length-reverse xs ∙ h ∙ sym (length-reverse ys))) ∙ e) in
          absurd (true≢false (sym (ap is_no (stack_uneven (item_answer classes) xs ys uneven)) ∙ fine))

  yes_both : (a b : Outcome) → is_missing a ≡ false → is_no a ≡ false → both a b ≡ b
  yes_both yes b h k = refl
  yes_both no b h k = absurd (true≢false k)
  yes_both (missing name) b h k = absurd (true≢false h)

  flag_there : (p q : Bool) → is_missing (flag_answer p q) ≡ false
  flag_there true true = refl
  flag_there true false = refl
  flag_there false q = refl

  frame_found : (f g : FrameFact) → is_no (frame_answer classes f g) ≡ false → frame_answer classes f g ≡ answer_if (missing_place classes f g)
  frame_found f g fine =
      let flags = flag_answer f.flag g.flag in
      let locals = list_answer (type_answer classes) f.locals g.locals in
      let stack = items classes f.stack g.stack in
      let place = first_mismatch is_missing (type_answer classes) 0 f.locals g.locals in
      let apart = or_false (is_no flags) (is_no (both locals stack)) (sym (no_both flags (both locals stack)) ∙ fine) in
      let each = or_false (is_no locals) (is_no stack) (sym (no_both locals stack) ∙ apart.1) in
      let at : locals ≡ found_answer (type_answer classes) place = list_found (type_answer classes) 0 f.locals g.locals each.0 in
      yes_both flags (both locals stack) (flag_there f.flag g.flag) apart.0
      ∙ both_found locals stack (option_map local place) (first_item is_missing classes (reverse f.stack) (reverse g.stack)) (at ∙ local_found place) (stack_found f.stack g.stack each.1)
      (ap is_missing at ∙ found_missing (type_answer classes) 0 f.locals g.locals ∙ sym (some_map local place)) apart.1

  missing_if : (b : Bool) (o : Option DifferenceFact) (d : DifferenceFact) → (if b then None else o) ≡ Some d → (b ≡ false) × (o ≡ Some d)
  missing_if true o d e = absurd (true≢false (sym (ap is_some e)))
  missing_if false o d e = (refl, e)

  some_answer : (o : Option DifferenceFact) (name : List ℕ) → answer_if o ≡ missing name → (d : DifferenceFact) × (o ≡ Some d) × (answer_at classes d ≡ missing name)
  some_answer None name e = absurd (true≢false (sym (ap is_missing e)))
  some_answer (Some d) name e = (d, refl, e)

  -- ---- each place that is found asks for a class that is missing

  local_asks : (xs ys : List VerificationType) → is_missing (answer_if (first_local is_missing classes xs ys)) ≡ is_some (first_local is_missing classes xs ys)
  local_asks xs ys =
      let o = first_mismatch is_missing (type_answer classes) 0 xs ys in
      sym (ap is_missing (local_found o)) ∙ found_missing (type_answer classes) 0 xs ys ∙ sym (some_map local o)

  item_asks : (xs ys : List VerificationType) → is_missing (answer_if (first_item is_missing classes xs ys)) ≡ is_some (first_item is_missing classes xs ys)
  item_asks xs ys =
      let o = first_mismatch is_missing (item_answer classes) 0 xs ys in
      sym (ap is_missing (item_found o)) ∙ found_missing (item_answer classes) 0 xs ys ∙ sym (some_map item o)

  or_asks : (o p : Option DifferenceFact) → is_missing (answer_if o) ≡ is_some o → is_missing (answer_if p) ≡ is_some p
      → is_missing (answer_if (option_or o p)) ≡ is_some (option_or o p)
  or_asks None p h k = k
  or_asks (Some d) p h k = h

  not_missing : (a : Outcome) → is_no a ≡ true → is_missing a ≡ false
  not_missing yes e = refl
  not_missing no e = refl
  not_missing (missing name) e = absurd (true≢false (sym e))

  asks : (f g : FrameFact) (b : Bool) → is_no (frame_answer classes f g) ≡ b → is_missing (frame_answer classes f g) ≡ is_some (if b then None else missing_place classes f g)
  asks f g true e = not_missing (frame_answer classes f g) e
  asks f g false e =
      ap is_missing (frame_found f g e)
      ∙ or_asks (first_local is_missing classes f.locals g.locals) (first_item is_missing classes (reverse f.stack) (reverse g.stack)) (local_asks f.locals g.locals)
      (item_asks (reverse f.stack) (reverse g.stack))

-- the comparison asks for a class that is missing exactly where there is a first place that does
pub missing_is_some : (classes : List ClassFact) (f g : FrameFact) → length f.locals ≡ length g.locals → is_missing (frame_answer classes f g) ≡ is_some (first_missing classes f g)
missing_is_some classes f g even = asks classes f g (is_some (first_difference classes f g)) (no_difference classes f g even)

pub missing_is_found : MissingIsFound
missing_is_found classes f g name even =
    let same = no_difference classes f g even in
    let place = missing_place classes f g in (
      λ e.
          let fine : is_no (frame_answer classes f g) ≡ false = ap is_no e in
          let d = some_answer classes place name (sym (frame_found classes f g fine) ∙ e) in
          (d.0, ap (λ b. if b then None else place) (sym same ∙ fine) ∙ d.1, d.2),
      λ d.
          let is = missing_if classes (is_some (first_difference classes f g)) place d.0 d.1 in
          frame_found classes f g (same ∙ is.0) ∙ ap (answer_if classes) is.1 ∙ d.2,
    )
