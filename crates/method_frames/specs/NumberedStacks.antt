-- Operand stacks by the numbers of their types: of the running frame of a method, and of its declared frames (JVMS
-- 4.10.1.4).
use Rattle.std.specs.Prelude.{ℕ, List, [], slice_index_or}
use Rattle.type_numbers.specs.Numbers.{Numbering}

pub record NumberedStacks : Type 0 where
  -- the numbers that were given to types
  pub types : Numbering
  -- how many items a stack has that is declared, at most
  pub limit : ℕ
  -- the stack of the running frame, its top first
  pub running : List ℕ
  -- those of the declared frames, in the order in which they were declared
  pub declared : List (List ℕ)

abbrev pub declared_stack : NumberedStacks → ℕ → List ℕ
declared_stack x stack = slice_index_or x.declared stack []
