-- Operands whose numbers tell at once that they are of the expected types.
use Rattle.std.specs.Prelude.{◌≡◌, ℕ, List, [], ◌∷◌}
use Rattle.hierarchy.specs.Answer.{yes}
use Rattle.type_numbers.specs.Numbers.{Numbering}
use Rattle.type_numbers.specs.Decoding.{type_by}
use Rattle.numbered_rules.specs.declared.expected.Expected.{Expected}
use Rattle.numbered_rules.specs.Expected.{accepts_by}

-- the first items are of the expected types, one by one
abbrev pub AreMet : Numbering → List Expected → List ℕ → Type 0
AreMet s [] ns = Unit {0}
AreMet s (e ∷ es) [] = ⊥
AreMet s (e ∷ es) (n ∷ ns) = (accepts_by s e (type_by s n) ≡ yes) × AreMet s es ns
