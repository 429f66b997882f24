-- Rows of types by their numbers: of the running frame of a method, and of its declared frames (JVMS 4.10.1.2).
use Rattle.std.specs.Prelude.{ℕ, List, [], slice_index_or}
use Rattle.type_numbers.specs.Numbers.{Numbering}

pub record NumberedRows : Type 0 where
  -- the numbers that were given to types
  pub types : Numbering
  -- the row of the running frame
  pub running : List ℕ
  -- those of the declared frames, in the order in which they were declared
  pub declared : List (List ℕ)
  -- what that of the running frame held when it was kept last, at first Top throughout
  pub kept : List ℕ

abbrev pub declared_in : NumberedRows → ℕ → List ℕ
declared_in x row = slice_index_or x.declared row []
