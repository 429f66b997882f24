-- Values that stand twice in a list.
use Rattle.std.specs.Prelude.{Bool, false, ◌||◌, List, [], ◌∷◌}
use Rattle.std.specs.List.{list_any}

-- one of them stands again behind itself, where the test says of two that they are the same
abbrev pub has_twice : {X : Type 0} → (X → X → Bool) → List X → Bool
has_twice same [] = false
has_twice same (x ∷ xs) = list_any (same x) xs || has_twice same xs
