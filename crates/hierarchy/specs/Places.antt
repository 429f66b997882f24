-- The places of the classes of a list, from 0.
use Rattle.std.specs.Prelude.{◌≡◌, ℕ, List, Option, Some, position}
use Rattle.std.specs.Str.{bytes_eq}
use Rattle.hierarchy.specs.Class.{ClassFact}

-- where the first class of this name stands
abbrev pub place_in : List ClassFact → List ℕ → Option ℕ
place_in classes name = position (λ c. bytes_eq name c.name) classes

-- two names with one place are equal
abbrev pub PlacesAreNames : Type 0
PlacesAreNames = (classes : List ClassFact) (a b : List ℕ) (n : ℕ) → place_in classes a ≡ Some n
    → place_in classes b ≡ Some n → a ≡ b
