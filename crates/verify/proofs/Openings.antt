-- Things of two lists in turn, of which it holds of each two.
use Rattle.std.proofs.Common.{◌≡◌, ◌+◌, ◌<◌, ℕ, List, [], ◌∷◌, ◌++◌, get_or, length, slice_get, take, Some, Result, Ok, Err, refl, ap, sym, ◌∙◌, subst}
use Rattle.std.specs.Prelude.{IfOk, OnOk}
use Rattle.std.proofs.lemmas.Option.{slice_get-get_or}
use Rattle.classfile.proofs.Places.{take_one_more}
use Rattle.verify.specs.private.OpeningSteps.{Each}

module _ {A B : Type 0} (R : A → B → Type 0) where
  -- one more of each
  pub each_more : (xs : List A) (ys : List B) (a : A) (b : B) → Each R xs ys → R a b → Each R (xs ++ a ∷ []) (ys ++ b ∷ [])
  each_more [] [] a b all one = (one, tt)
  each_more [] (d ∷ ys) a b all one = absurd all
  each_more (c ∷ xs) [] a b all one = absurd all
  each_more (c ∷ xs) (d ∷ ys) a b all one = (all.0, each_more xs ys a b all.1 one)

  -- the last of each, and those before
  pub record Last (xs : List A) (ys : List B) (b : B) : Type 0 where
    pub front : List A
    pub last : A
    pub same : xs ≡ front ++ last ∷ []
    pub before : Each R front ys
    pub here : R last b

  pub each_last : (xs : List A) (ys : List B) (b : B) → Each R xs (ys ++ b ∷ []) → Last xs ys b
  each_last [] [] b all = absurd all
  each_last (a ∷ []) [] b all = record { front = []; last = a; same = refl; before = tt; here = all.0 }
  each_last (a ∷ c ∷ xs) [] b all = absurd all.1
  each_last [] (d ∷ ys) b all = absurd all
  each_last (a ∷ xs) (d ∷ ys) b all =
      let rest = each_last xs ys b all.1 in
      record { front = a ∷ rest.front; last = rest.last; same = ap (λ (zs : List A). a ∷ zs) rest.same; before = (all.0, rest.before); here = rest.here }

  -- of the first things of the second list
  pub taken_last : (xs : List A) (ys : List B) (i : ℕ) (b : B) → i < length ys → b ≡ get_or ys i b → Each R xs (take (i + 1) ys) → Last xs (take i ys) b
  taken_last xs ys i b lt is all =
      let there : slice_get ys i ≡ Some b = slice_get-get_or ys i b lt ∙ ap (λ (y : B). Some y) (sym is) in
      each_last xs (take i ys) b (subst (Each R xs) (take_one_more ys i b there) all)

-- ---- what holds of a result for each thing

pub if_ok_all : {E T X : Type 0} {P : X → Type 0} (Q : X → T → Type 0) (r : Result T E) → ((x : X) → P x → IfOk r (Q x)) → IfOk r (λ t. (x : X) → P x → Q x t)
if_ok_all Q (Ok t) all = all
if_ok_all Q (Err e) all = tt

pub on_ok_all : {E T X : Type 0} {P : X → Type 0} (Q : X → Type 0) (r : Result T E) → ((x : X) → P x → OnOk r (Q x)) → OnOk r ((x : X) → P x → Q x)
on_ok_all Q (Ok t) all = all
on_ok_all Q (Err e) all = tt

-- ---- of no thing

pub none_each : {A B C : Type 0} (R : A → B → Type 0) (S : A → C → Type 0) (xs : List A) → Each R xs [] → Each S xs []
none_each R S [] all = tt
none_each R S (a ∷ xs) all = absurd all
