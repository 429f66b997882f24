-- The units that items take, by the numbers of their types.
use Rattle.std.specs.Prelude.{◌≡◌, ℕ, ◌+◌, List, length}
use Rattle.frames.specs.Slots.{units_of}
use Rattle.type_numbers.specs.Numbers.{Numbering}
use Rattle.type_numbers.specs.Decoding.{types_by}

-- what is counted is how many items take two units
pub record IsCounted (numbers : List ℕ) (wides : ℕ) : Type 0 where
  pub units : (s : Numbering) → units_of (types_by s numbers) ≡ length numbers + wides
