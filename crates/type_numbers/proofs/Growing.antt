-- Names by their places in a list that grows.
use Rattle.std.proofs.Common.{◌≡◌, ◌∙◌, ℕ, ◌<◌, ◌||◌, Bool, true, false, cond, nat_lt, List, [], ◌∷◌, ◌++◌, length, position, Some, None, slice_get, get_or, refl, sym, ap, arith, length-append}
use Rattle.std.specs.List.{position_or_len, list_any}
use Rattle.std.specs.Str.{bytes_eq}
use Rattle.std.proofs.lemmas.Bool.{ltb-true, true≢false}
use Rattle.std.proofs.lemmas.Grind.{common_steps}
use Rattle.std.proofs.lemmas.List.Folds.{position_or_len_push}
use Rattle.std.proofs.lemmas.List.Quantifiers.{position-Some}
use Rattle.std.proofs.lemmas.Option.{slice_get-get_or}
use Rattle.std.proofs.lemmas.Slice.Eq.{bytes_eq-Decides}
use Rattle.hierarchy.proofs.Names.{none_some, some_same}

-- the name at the place that was found
pub named_at : (names : List (List ℕ)) (name : List ℕ) (k : ℕ) → position (bytes_eq name) names ≡ Some k → slice_get names k ≡ Some name
named_at names name k e =
    let s = position-Some (bytes_eq name) names k [] e in
    slice_get-get_or names k [] s.0 ∙ ap (λ x. Some x) (sym ((bytes_eq-Decides name (get_or names k [])).0 s.1))

-- where a place that was found stands
found : (b : Bool) (m k : ℕ) → cond b (Some m) None ≡ Some k → (b ≡ true) × (m ≡ k)
found true m k e = (refl, some_same e)
found false m k e = absurd (none_some e)

shorter : {X : Type 0} (xs : List X) (y : X) (m : ℕ) → m < length xs → m < length (xs ++ y ∷ [])
shorter xs y m h = let l = length-append xs (y ∷ []) in omega arith

first_kept : {X : Type 0} (p : X → Bool) (xs : List X) (y : X) → position_or_len p xs < length xs → position_or_len p (xs ++ y ∷ []) ≡ position_or_len p xs
first_kept p xs y h = grind (arith, position_or_len_push p xs y)

at_first : {X : Type 0} (p : X → Bool) (xs : List X) → position_or_len p xs < length xs → position p xs ≡ Some (position_or_len p xs)
at_first p xs h = grind (arith, common_steps)

-- it stays found where an element is pushed
pub push_keeps : {X : Type 0} (p : X → Bool) (xs : List X) (y : X) (k : ℕ) → position p xs ≡ Some k → position p (xs ++ y ∷ []) ≡ Some k
push_keeps p xs y k e =
    let s = found (nat_lt (position_or_len p xs) (length xs)) (position_or_len p xs) k e in
    let h = ltb-true (position_or_len p xs) (length xs) s.0 in
    let same = first_kept p xs y h in
    let within = shorter xs y (position_or_len p xs) h in
    at_first p (xs ++ y ∷ []) (rw same within) ∙ ap (λ m. Some m) (same ∙ s.1)

-- ---- an element is pushed where none passes

any_within : {X : Type 0} (p : X → Bool) (xs : List X) → list_any p xs ≡ true → position_or_len p xs < length xs
any_within p [] e = absurd (true≢false (sym e))
any_within p (x ∷ xs) e = by (p x) refl e (any_within p xs)
  where
    by : (b : Bool) → p x ≡ b → (b || list_any p xs) ≡ true → (list_any p xs ≡ true → position_or_len p xs < length xs) → position_or_len p (x ∷ xs) < length (x ∷ xs)
    by true h e f = grind (arith, common_steps)
    by false h e f = let l = f e in grind (arith, common_steps)

none_within : {X : Type 0} (p : X → Bool) (xs : List X) → list_any p xs ≡ false → position_or_len p xs ≡ length xs
none_within p [] e = refl
none_within p (x ∷ xs) e = by (p x) refl e (none_within p xs)
  where
    by : (b : Bool) → p x ≡ b → (b || list_any p xs) ≡ false → (list_any p xs ≡ false → position_or_len p xs ≡ length xs) → position_or_len p (x ∷ xs) ≡ length (x ∷ xs)
    by true h e f = absurd (true≢false e)
    by false h e f = let l = f e in grind (arith, common_steps)

module _ {X : Type 0} (p : X → Bool) (xs : List X) (y : X) where
  pushed : list_any p xs ≡ false → p y ≡ true → position p (xs ++ y ∷ []) ≡ Some (length xs)
  pushed none passes =
      let e = none_within p xs none in
      let l = length-append xs (y ∷ []) in
      let f : position_or_len p (xs ++ y ∷ []) ≡ position_or_len p xs = grind (arith, position_or_len_push p xs y) in
      let h : position_or_len p (xs ++ y ∷ []) < length (xs ++ y ∷ []) = omega arith in
      at_first p (xs ++ y ∷ []) h ∙ ap (λ m. Some m) (f ∙ e)

nowhere : {X : Type 0} (p : X → Bool) (xs : List X) → list_any p xs ≡ false → position p xs ≡ None
nowhere p xs none =
    let e = none_within p xs none in
    grind (arith, common_steps)

any_pushed : {X : Type 0} (p : X → Bool) (xs : List X) (y : X) → list_any p xs ≡ false → p y ≡ false → list_any p (xs ++ y ∷ []) ≡ false
any_pushed p [] y none fails = ap (λ b. b || false) fails
any_pushed p (x ∷ xs) y none fails = by (p x) none (any_pushed p xs y)
  where
    by : (b : Bool) → (b || list_any p xs) ≡ false → (list_any p xs ≡ false → p y ≡ false → list_any p (xs ++ y ∷ []) ≡ false) → (b || list_any p (xs ++ y ∷ [])) ≡ false
    by true e f = absurd (true≢false e)
    by false e f = f e fails

-- an element is pushed that passes where no other does
push_new : {X : Type 0} (p : X → Bool) (xs : List X) (y : X) (b c : Bool) → list_any p xs ≡ b → p y ≡ c → (b ≡ true → c ≡ false)
    → position p (xs ++ y ∷ []) ≡ cond c (Some (length xs)) (position p xs)
push_new p xs y true true any passes apart = absurd (true≢false (apart refl))
push_new p xs y true false any fails apart =
    let at = at_first p xs (any_within p xs any) in
    push_keeps p xs y (position_or_len p xs) at ∙ sym at
push_new p xs y false true none passes apart = pushed p xs y none passes
push_new p xs y false false none fails apart = nowhere p (xs ++ y ∷ []) (any_pushed p xs y none fails) ∙ sym (nowhere p xs none)

-- ---- names, each at one place

same_either_way : (a b : List ℕ) → bytes_eq a b ≡ bytes_eq b a
same_either_way a b = by (bytes_eq a b) (bytes_eq b a) refl refl
  where
    by : (p q : Bool) → bytes_eq a b ≡ p → bytes_eq b a ≡ q → p ≡ q
    by true true e f = refl
    by false false e f = refl
    by true false e f = absurd (true≢false (sym ((bytes_eq-Decides b a).1 (sym ((bytes_eq-Decides a b).0 e))) ∙ f))
    by false true e f = absurd (true≢false (sym ((bytes_eq-Decides a b).1 (sym ((bytes_eq-Decides b a).0 f))) ∙ e))

-- a name that is not among others is pushed after them
pub name_pushed : (names : List (List ℕ)) (name : List ℕ) → position (bytes_eq name) names ≡ None
    → (other : List ℕ) → position (bytes_eq other) (names ++ name ∷ []) ≡ cond (bytes_eq name other) (Some (length names)) (position (bytes_eq other) names)
name_pushed names name none other =
    push_new (bytes_eq other) names name (list_any (bytes_eq other) names) (bytes_eq other name) refl refl apart
    ∙ ap (λ b. cond b (Some (length names)) (position (bytes_eq other) names)) (same_either_way other name)
  where
    apart : list_any (bytes_eq other) names ≡ true → bytes_eq other name ≡ false
    apart any = by (bytes_eq other name) refl
      where
        by : (b : Bool) → bytes_eq other name ≡ b → b ≡ false
        by false e = refl
        by true e =
            let same = (bytes_eq-Decides other name).0 e in
            absurd (none_some (sym none ∙ ap (λ (n : List ℕ). position (bytes_eq n) names) (sym same) ∙ at_first (bytes_eq other) names (any_within (bytes_eq other) names any)))

-- and then its place is the next one
pub name_is_last : (names : List (List ℕ)) (name : List ℕ) → position (bytes_eq name) names ≡ None
    → position (bytes_eq name) (names ++ name ∷ []) ≡ Some (length names)
name_is_last names name none =
    name_pushed names name none name
    ∙ ap (λ b. cond b (Some (length names)) (position (bytes_eq name) names)) ((bytes_eq-Decides name name).1 refl)
