-- Where a cursor stands: how many bytes came before, and the bytes that are left. Places count bytes from 0.
use Rattle.std.specs.Prelude.{◌≡◌, ℕ, ◌+◌, List, ◌++◌, length}

pub record Place : Type 0 where
  pub at : ℕ
  pub rest : List ℕ

-- these bytes were taken: they stood in front, and the cursor is after them
pub record Took (bytes : List ℕ) (old new : Place) : Type 0 where
  pub parts : old.rest ≡ bytes ++ new.rest
  pub at : new.at ≡ old.at + length bytes
