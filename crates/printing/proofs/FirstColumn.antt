-- The numbers of a first column, from a row on.
use Rattle.std.proofs.Common.{◌≡◌, ◌<◌, ◌+◌, ℕ, zero, suc, List, [], ◌∷◌, ◌++◌, refl, ◌∙◌, ap, length, drop, arith}
use Rattle.std.specs.Prelude.{slice_get}
use Rattle.std.specs.List.{flat_map}
use Rattle.std.specs.Option.{option_and_then, option_map_or}
use Rattle.classfile.specs.Numbers.{first_of}

pub column_left : (line : ℕ → List ℕ) (rows : List (List ℕ)) (i : ℕ) → i < length rows
    → flat_map line (flat_map first_of (drop i rows))
    ≡ option_map_or line (option_and_then (λ numbers. slice_get numbers 0) (slice_get rows i)) [] ++ flat_map line (flat_map first_of (drop (i + 1) rows))
column_left line [] i within = absurd (omega (arith, within))
column_left line ([] ∷ rows) zero within = refl
column_left line ((n ∷ row) ∷ rows) zero within = refl
column_left line (row ∷ rows) (suc i) within =
    let next : suc (i + 1) ≡ suc i + 1 = omega arith in
    column_left line rows i (omega (arith, within))
    ∙ ap (λ (k : ℕ). option_map_or line (option_and_then (λ numbers. slice_get numbers 0) (slice_get rows i)) [] ++ flat_map line (flat_map first_of (drop k (row ∷ rows)))) next
