-- Rows of one value.
use Rattle.std.proofs.Common.{◌≡◌, ◌∙◌, ℕ, zero, suc, Bool, true, false, if◌then◌else◌, List, [], ◌∷◌, ◌++◌, get_or, replicate, take, refl, ap}

take_nil : {A : Type 0} (none : List A) (n : ℕ) → none ≡ [] → take n none ≡ none
take_nil [] zero e = refl
take_nil [] (suc n) e = refl
take_nil (x ∷ xs) n e = absurd (cc)

same_everywhere : {A : Type 0} (x : A) (m k : ℕ) → get_or (replicate m x) k x ≡ x
same_everywhere x zero zero = refl
same_everywhere x zero (suc k) = refl
same_everywhere x (suc m) zero = refl
same_everywhere x (suc m) (suc k) = same_everywhere x m k

-- an empty row has one value everywhere, whether it was filled with it or not
pub filled : {A : Type 0} (x : A) (old now : List A) (n m : ℕ) (done : Bool) → old ≡ [] → now ≡ (if done then take n old ++ replicate m x else old) → (k : ℕ) → get_or now k x ≡ x
filled x old now n m true none is k =
    ap (λ xs. get_or xs k x) is ∙ ap (λ xs. get_or (xs ++ replicate m x) k x) (take_nil old n none ∙ none) ∙ same_everywhere x m k
filled x old now n m false none is k = ap (λ xs. get_or xs k x) (is ∙ none) ∙ same_everywhere x zero k
