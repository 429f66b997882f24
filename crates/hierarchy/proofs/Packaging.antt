-- The package of a class, byte by byte from the front.
use Rattle.std.proofs.Common.{◌≡◌, ◌==◌, ◌||◌, ◌+◌, ◌<◌, ℕ, Bool, true, false, cond, List, [], ◌∷◌, ◌++◌, length, take, get_or, refl, ap, ◌∙◌}
use Rattle.std.proofs.lemmas.Bool.{eqb-true}
use Rattle.std.proofs.lemmas.List.{take_more}
use Rattle.hierarchy.specs.Nearest.{has_slash, package_of}

or_false : (b : Bool) → (b || false) ≡ b
or_false true = refl
or_false false = refl

or_or : (a b c : Bool) → (a || (b || c)) ≡ ((a || b) || c)
or_or true b c = refl
or_or false b c = refl

slash_last : (bs : List ℕ) (b : ℕ) → has_slash (bs ++ b ∷ []) ≡ (has_slash bs || (b == 47))
slash_last [] b = or_false (b == 47)
slash_last (x ∷ bs) b = ap (λ t. (x == 47) || t) (slash_last bs b) ∙ or_or (x == 47) (has_slash bs) (b == 47)

or_true : (b : Bool) → (b || true) ≡ true
or_true true = refl
or_true false = refl

-- one byte more
pub package_more : (bs : List ℕ) (b : ℕ) → package_of (bs ++ b ∷ []) ≡ cond (b == 47) bs (package_of bs)
package_more [] b = by (b == 47)
  where
    by : (t : Bool) → (let none : List ℕ = [] in none) ≡ cond t [] []
    by true = refl
    by false = refl
package_more (x ∷ bs) b = ap (λ t. cond t (x ∷ package_of (bs ++ b ∷ [])) []) (slash_last bs b) ∙ ap (λ p. cond (has_slash bs || (b == 47)) (x ∷ p) []) (package_more bs b) ∙ by (b == 47)
  where
    by : (t : Bool) → cond (has_slash bs || t) (x ∷ cond t bs (package_of bs)) [] ≡ cond t (x ∷ bs) (cond (has_slash bs) (x ∷ package_of bs) [])
    by true = ap (λ s. cond s (x ∷ bs) []) (or_true (has_slash bs))
    by false = ap (λ s. cond s (x ∷ package_of bs) []) (or_false (has_slash bs))

module _ (name : List ℕ) (i d : ℕ) (lt : i < length name) where
  more : package_of (take (i + 1) name) ≡ cond (get_or name i d == 47) (take i name) (package_of (take i name))
  more = ap package_of (take_more name i d lt) ∙ package_more (take i name) (get_or name i d)

  pub at_slash : get_or name i d ≡ 47 → package_of (take (i + 1) name) ≡ take i name
  at_slash e = more ∙ ap (λ b. cond (b == 47) (take i name) (package_of (take i name))) e

  pub at_other : (get_or name i d ≡ 47 → ⊥) → package_of (take (i + 1) name) ≡ package_of (take i name)
  at_other n = more ∙ by (get_or name i d == 47) refl
    where
      by : (t : Bool) → (get_or name i d == 47) ≡ t → cond t (take i name) (package_of (take i name)) ≡ package_of (take i name)
      by true e = absurd (n (eqb-true (get_or name i d) 47 e))
      by false e = refl
