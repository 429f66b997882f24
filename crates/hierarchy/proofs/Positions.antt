-- The first element that passes a test, among those that pass another.
use Rattle.std.proofs.Common.{◌≡◌, ◌⊎◌, inl, inr, ◌||◌, ℕ, zero, suc, ◌+◌, ◌<◌, ◌≤◌, Bool, true, false, cond, nat_lt, List, [], ◌∷◌, ◌++◌, drop, get_or, length, position, slice_get, take, Some, None, refl, ap, sym, ◌∙◌, subst, arith}
use Rattle.std.specs.List.{filter, list_any, position_or_len}
use Rattle.std.proofs.lemmas.Bool.{false≢true, ltb-true, ltb-false}
use Rattle.std.proofs.lemmas.List.{drop_more, length-append, take_all, take_more}
use Rattle.std.proofs.lemmas.List.Elements.{filter-append}
use Rattle.std.proofs.lemmas.List.Folds.{list_any-append}
use Rattle.std.proofs.lemmas.Option.{slice_get_within, slice_get-get_or}
use Rattle.hierarchy.proofs.Names.{none_some, some_same}
use Rattle.hierarchy.proofs.TextPlaces.{behind_cases}

-- ---- elements that pass

pub any_at : {X : Type 0} (p : X → Bool) (xs : List X) → list_any p xs ≡ true → (i : ℕ) × (x : X) × (slice_get xs i ≡ Some x) × (p x ≡ true)
any_at {X = X} p [] e = absurd (false≢true e)
any_at {X = X} p (x ∷ xs) e = by (p x) refl e (any_at p xs)
  where
    by : (b : Bool) → p x ≡ b → (b || list_any p xs) ≡ true → (list_any p xs ≡ true → (i : ℕ) × (y : X) × (slice_get xs i ≡ Some y) × (p y ≡ true))
        → (i : ℕ) × (y : X) × (slice_get (x ∷ xs) i ≡ Some y) × (p y ≡ true)
    by true f e next = (zero, x, refl, f)
    by false f e next = let t = next e in (suc t.0, t.1, t.2, t.3)

pub at_any : {X : Type 0} (p : X → Bool) (xs : List X) (i : ℕ) (x : X) → slice_get xs i ≡ Some x → p x ≡ true → list_any p xs ≡ true
at_any p [] i x e f = absurd (false≢true cc)
at_any p (y ∷ ys) zero x e f = ap (λ b. b || list_any p ys) (ap p (some_same e) ∙ f)
at_any p (y ∷ ys) (suc i) x e f = by (p y) (at_any p ys i x e f)
  where
    by : (b : Bool) → list_any p ys ≡ true → (b || list_any p ys) ≡ true
    by true e = refl
    by false e = e

-- ---- the first that passes

more : (n : ℕ) → 1 + n ≡ suc n
more n = omega arith

before : {X : Type 0} (p : X → Bool) (ys : List X) (x : X) (zs : List X) → list_any p ys ≡ false → p x ≡ true → position_or_len p (ys ++ x ∷ zs) ≡ length ys
before p [] x zs n e = rw e refl
before p (y ∷ ys) x zs n e = by (p y) refl n (λ n. before p ys x zs n e)
  where
    by : (b : Bool) → p y ≡ b → (b || list_any p ys) ≡ false → (list_any p ys ≡ false → position_or_len p (ys ++ x ∷ zs) ≡ length ys) → position_or_len p (y ∷ (ys ++ x ∷ zs)) ≡ suc (length ys)
    by true f n next = absurd (false≢true (sym n))
    by false f n next = rw f (ap (λ k. 1 + k) (next n) ∙ more (length ys))

nowhere : {X : Type 0} (p : X → Bool) (ys : List X) → list_any p ys ≡ false → position_or_len p ys ≡ length ys
nowhere p [] n = refl
nowhere p (y ∷ ys) n = by (p y) refl n (nowhere p ys)
  where
    by : (b : Bool) → p y ≡ b → (b || list_any p ys) ≡ false → (list_any p ys ≡ false → position_or_len p ys ≡ length ys) → position_or_len p (y ∷ ys) ≡ suc (length ys)
    by true f n next = absurd (false≢true (sym n))
    by false f n next = rw f (ap (λ k. 1 + k) (next n) ∙ more (length ys))

placed : (k n : ℕ) → k < n → cond (nat_lt k n) (Some k) None ≡ Some k
placed k n lt = by (nat_lt k n) refl
  where
    by : (b : Bool) → nat_lt k n ≡ b → cond b (Some k) None ≡ Some k
    by true e = refl
    by false e = let le = ltb-false k n e in absurd (omega (arith, lt, le))

unplaced : (k n : ℕ) → n ≤ k → cond (nat_lt k n) (Some k) None ≡ None
unplaced k n le = by (nat_lt k n) refl
  where
    by : (b : Bool) → nat_lt k n ≡ b → cond b (Some k) None ≡ None
    by true e = let lt = ltb-true k n e in absurd (omega (arith, lt, le))
    by false e = refl

pub no_position : {X : Type 0} (p : X → Bool) (ys : List X) → list_any p ys ≡ false → position p ys ≡ None
no_position p ys n = ap (λ k. cond (nat_lt k (length ys)) (Some k) None) (nowhere p ys n) ∙ unplaced (length ys) (length ys) (omega arith)

-- ---- what holds of the first ones

-- holds of one more
pub each_next : {X : Type 0} (P : X → Type 0) (xs : List X) (k : ℕ) (x : X) → slice_get xs k ≡ Some x → P x → ((i : ℕ) (y : X) → slice_get (take k xs) i ≡ Some y → P y)
    → (i : ℕ) (y : X) → slice_get (take (k + 1) xs) i ≡ Some y → P y
each_next P xs k x at here before i y e = by (behind_cases (take k xs) x i y (sym (ap (λ zs. slice_get zs i) next) ∙ e))
  where
    lt : k < length xs
    lt = slice_get_within xs k x at

    next : take (k + 1) xs ≡ take k xs ++ x ∷ []
    next = take_more xs k x lt ∙ ap (λ z. take k xs ++ z ∷ []) (some_same (sym (slice_get-get_or xs k x lt) ∙ at))

    by : (slice_get (take k xs) i ≡ Some y) ⊎ ((i ≡ length (take k xs)) × (x ≡ y)) → P y
    by (inl f) = before i y f
    by (inr f) = subst P f.1 here

pub at_end : {X : Type 0} (P : X → Type 0) (xs : List X) (k : ℕ) → length xs ≤ k → ((i : ℕ) (y : X) → slice_get (take k xs) i ≡ Some y → P y) → (i : ℕ) (y : X) → slice_get xs i ≡ Some y → P y
at_end P xs k le all i y e = all i y (ap (λ zs. slice_get zs i) (take_all k xs le) ∙ e)

-- ---- among those that pass another test

module _ {X : Type 0} (q p : X → Bool) (xs : List X) (i : ℕ) (x : X) (at : slice_get xs i ≡ Some x) where
  within : i < length xs
  within = slice_get_within xs i x at

  is : get_or xs i x ≡ x
  is = some_same (sym (slice_get-get_or xs i x within) ∙ at)

  pub taken : take (i + 1) xs ≡ take i xs ++ x ∷ []
  taken = take_more xs i x within ∙ ap (λ y. take i xs ++ y ∷ []) is

  with_last : (b : Bool) → q x ≡ b → filter q (take (i + 1) xs) ≡ filter q (take i xs) ++ cond b (x ∷ []) []
  with_last b e = ap (filter q) taken ∙ filter-append q (take i xs) (x ∷ []) ∙ ap (λ ys. filter q (take i xs) ++ ys) (one b e)
    where
      one : (b : Bool) → q x ≡ b → filter q (x ∷ []) ≡ cond b (x ∷ []) []
      one true e = rw e refl
      one false e = rw e refl

  -- an element that does not pass the other test
  pub left_out : q x ≡ false → filter q (take (i + 1) xs) ≡ filter q (take i xs)
  left_out e = with_last false e ∙ nothing (filter q (take i xs))
    where
      nothing : (ys : List X) → ys ++ [] ≡ ys
      nothing [] = refl
      nothing (y ∷ ys) = ap (λ zs. y ∷ zs) (nothing ys)

  -- one that passes
  pub counted : q x ≡ true → length (filter q (take (i + 1) xs)) ≡ length (filter q (take i xs)) + 1
  counted e = ap length (with_last true e) ∙ length-append (filter q (take i xs)) (x ∷ [])

  pub still_none : q x ≡ true → p x ≡ false → list_any p (filter q (take i xs)) ≡ false → list_any p (filter q (take (i + 1) xs)) ≡ false
  still_none e f n = ap (list_any p) (with_last true e) ∙ list_any-append p (filter q (take i xs)) (x ∷ []) ∙ rw (n, f) refl

  pub found : q x ≡ true → p x ≡ true → list_any p (filter q (take i xs)) ≡ false → position p (filter q xs) ≡ Some (length (filter q (take i xs)))
  found e f n = ap (position p) all ∙ ap (λ k. cond (nat_lt k (length whole)) (Some k) None) (before p (filter q (take i xs)) x rest n f) ∙ placed (length (filter q (take i xs))) (length whole) long
    where
      rest : List X
      rest = filter q (drop (i + 1) xs)

      whole : List X
      whole = filter q (take i xs) ++ x ∷ rest

      long : length (filter q (take i xs)) < length whole
      long = let l = length-append (filter q (take i xs)) (x ∷ rest) in omega (arith, l)

      joined : (ys : List X) (k : ℕ) → ys ≡ take k ys ++ drop k ys
      joined [] zero = refl
      joined [] (suc k) = refl
      joined (y ∷ ys) zero = refl
      joined (y ∷ ys) (suc k) = ap (λ zs. y ∷ zs) (joined ys k)

      first : filter q (x ∷ drop (i + 1) xs) ≡ x ∷ rest
      first = rw e refl

      all : filter q xs ≡ whole
      all = ap (filter q) (joined xs i ∙ ap (λ ys. take i xs ++ ys) (drop_more xs i x within ∙ ap (λ y. y ∷ drop (i + 1) xs) is))
          ∙ filter-append q (take i xs) (x ∷ drop (i + 1) xs) ∙ ap (λ ys. filter q (take i xs) ++ ys) first
