-- Elements of arrays, and the sizes of their dimensions.
use Rattle.std.proofs.Common.{◌≡◌, ℕ, zero, suc, ◌-◌, List, [], ◌∷◌, ◌++◌, take, map, refl, ◌∙◌, ap, arith}
use Rattle.std.specs.Prelude.{replicate}
use Rattle.insn.specs.declared.kinds.Kind.TheVariants.{Int}
use Rattle.rules.specs.declared.expected.ExpectedType.{ExpectedType}
use Rattle.rules.specs.declared.expected.ExpectedType.TheVariants.{Number}
use Rattle.rules.specs.TypingRules.{number, sizes}
use Rattle.rules.specs.Views.{expected_view}

sizes_are : (n : ℕ) → map expected_view (replicate n (Number Int)) ≡ sizes n
sizes_are zero = refl
sizes_are (suc n) = ap (λ ws. number Int ∷ ws) (sizes_are n)

take_none : {A : Type 0} (n : ℕ) → take n (let none : List A = [] in none) ≡ []
take_none zero = refl
take_none (suc n) = refl

-- an empty list that is filled up
pub filled_up : (n m k : ℕ) (old new : List ExpectedType) → m ≡ n → k ≡ 0 → old ≡ [] → new ≡ take m old ++ replicate (m - k) (Number Int) → map expected_view new ≡ sizes n
filled_up n m k old new count none empty e =
    ap (map expected_view) e
    ∙ ap (λ z. map expected_view (take m z ++ replicate (m - k) (Number Int))) empty
    ∙ ap (λ z. map expected_view (z ++ replicate (m - k) (Number Int))) (take_none m)
    ∙ ap (λ z. map expected_view (replicate z (Number Int))) (omega (arith, count, none))
    ∙ sizes_are n
