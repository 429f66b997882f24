-- Tests over what the items of a table are.
use Rattle.std.proofs.Common.{◌≡◌, ◌∙◌, ℕ, ◌+◌, Bool, true, false, ◌||◌, cond, List, [], ◌∷◌, map, Some, position, refl, sym, ap}
use Rattle.std.specs.List.{list_any, position_from}
use Rattle.std.proofs.lemmas.Iterator.Adapters.{position_from-zero}

pub any_viewed : {X Y : Type 0} (test : Y → Bool) (view : X → Y) (xs : List X) → list_any (λ x. test (view x)) xs ≡ list_any test (map view xs)
any_viewed test view [] = refl
any_viewed test view (x ∷ xs) = ap (λ (b : Bool). test (view x) || b) (any_viewed test view xs)

position_from_viewed : {X Y : Type 0} (test : Y → Bool) (view : X → Y) (i : ℕ) (xs : List X)
    → position_from (λ x. test (view x)) i xs ≡ position_from test i (map view xs)
position_from_viewed test view i [] = refl
position_from_viewed test view i (x ∷ xs) = ap (cond (test (view x)) (Some i)) (position_from_viewed test view (i + 1) xs)

pub position_viewed : {X Y : Type 0} (test : Y → Bool) (view : X → Y) (xs : List X)
    → position (λ x. test (view x)) xs ≡ position test (map view xs)
position_viewed test view xs =
    position_from-zero (λ x. test (view x)) xs ∙ position_from_viewed test view 0 xs ∙ sym (position_from-zero test (map view xs))

-- ---- two tests in one

pub four : (a b c d : Bool) → (a || b) || (c || d) ≡ (a || c) || (b || d)
four true b c d = refl
four false true true d = refl
four false true false d = refl
four false false c d = refl

pub any_either : {X : Type 0} (p q : X → Bool) (xs : List X) → list_any (λ x. p x || q x) xs ≡ list_any p xs || list_any q xs
any_either p q [] = refl
any_either p q (x ∷ xs) = ap (λ (b : Bool). (p x || q x) || b) (any_either p q xs) ∙ four (p x) (q x) (list_any p xs) (list_any q xs)
