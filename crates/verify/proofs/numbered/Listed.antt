-- Places of a list in which an item was added or replaced.
use Rattle.std.proofs.Common.{◌≡◌, ◌⊎◌, ℕ, zero, suc, ◌<◌, ◌≤◌, ◌∙◌, List, [], ◌∷◌, ◌++◌, length, get_or, set, slice_get, Some, refl, ap, inl, inr, arith}
use Rattle.std.proofs.lemmas.List.{length-append}

pub some_same : {A : Type 0} (a b : A) → Some a ≡ Some b → a ≡ b
some_same a b e = cc

-- an item of a list with one more is one of those before, or that one
pub pushed_cases : {A : Type 0} (xs : List A) (y r : A) (k : ℕ) → slice_get (xs ++ y ∷ []) k ≡ Some r → (slice_get xs k ≡ Some r) ⊎ ((k ≡ length xs) × (y ≡ r))
pushed_cases [] y r zero e = inr (refl, cc)
pushed_cases [] y r (suc k) e = absurd (cc)
pushed_cases (x ∷ xs) y r zero e = inl e
pushed_cases (x ∷ xs) y r (suc k) e = elim (pushed_cases xs y r k e) [
  | inl h ↦ inl h
  | inr h ↦ inr (ap suc h.0, h.1)
]

pub pushed_before : {A : Type 0} (xs : List A) (y r : A) (k : ℕ) → slice_get xs k ≡ Some r → slice_get (xs ++ y ∷ []) k ≡ Some r
pushed_before [] y r k e = absurd (cc)
pushed_before (x ∷ xs) y r zero e = e
pushed_before (x ∷ xs) y r (suc k) e = pushed_before xs y r k e

pub pushed_last : {A : Type 0} (xs : List A) (y : A) → slice_get (xs ++ y ∷ []) (length xs) ≡ Some y
pushed_last [] y = refl
pushed_last (x ∷ xs) y = pushed_last xs y

-- the number at a place
pub index_at : {A : Type 0} (xs : List A) (d : A) (k : ℕ) → k < length xs → slice_get xs k ≡ Some (get_or xs k d)
index_at [] d k lt = absurd (omega (arith, lt))
index_at (x ∷ xs) d zero lt = refl
index_at (x ∷ xs) d (suc k) lt = index_at xs d k (omega (arith, lt))

-- an item of a list in which one was replaced is that one, or stood there before
pub set_cases : {A : Type 0} (xs : List A) (i : ℕ) (y z : A) (k : ℕ) → slice_get (set xs i y) k ≡ Some z → ((k ≡ i) × (y ≡ z)) ⊎ (slice_get xs k ≡ Some z)
set_cases [] i y z k e = absurd (cc)
set_cases (x ∷ xs) zero y z zero e = inl (refl, cc)
set_cases (x ∷ xs) zero y z (suc k) e = inr e
set_cases (x ∷ xs) (suc i) y z zero e = inr e
set_cases (x ∷ xs) (suc i) y z (suc k) e = elim (set_cases xs i y z k e) [
  | inl h ↦ inl (ap suc h.0, h.1)
  | inr h ↦ inr h
]

pub set_here : {A : Type 0} (xs : List A) (i : ℕ) (y : A) → i < length xs → slice_get (set xs i y) i ≡ Some y
set_here [] i y lt = absurd (omega (arith, lt))
set_here (x ∷ xs) zero y lt = refl
set_here (x ∷ xs) (suc i) y lt = set_here xs i y (omega (arith, lt))

-- an item stays, unless it is replaced
pub set_kept : {A : Type 0} (xs : List A) (i : ℕ) (y z : A) (k : ℕ) → slice_get xs k ≡ Some z → (k ≡ i) ⊎ (slice_get (set xs i y) k ≡ Some z)
set_kept [] i y z k e = absurd (cc)
set_kept (x ∷ xs) zero y z zero e = inl refl
set_kept (x ∷ xs) zero y z (suc k) e = inr e
set_kept (x ∷ xs) (suc i) y z zero e = inr e
set_kept (x ∷ xs) (suc i) y z (suc k) e = elim (set_kept xs i y z k e) [
  | inl h ↦ inl (ap suc h)
  | inr h ↦ inr h
]

pub longer : {A : Type 0} (xs ys : List A) (y : A) (n : ℕ) → ys ≡ xs ++ y ∷ [] → n ≤ length xs → n ≤ length ys
longer xs ys y n is le = let more = ap length is ∙ length-append xs (y ∷ []) in omega (arith, le, more)
