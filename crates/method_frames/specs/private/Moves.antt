-- The items of an operand stack as instructions for the stack move them.
use Rattle.std.specs.Prelude.{◌≡◌, ℕ, List, ◌++◌, reverse}
use Rattle.insn.specs.OperandStacks.{chosen}

-- the items of these places, the top's being 0, now stand on what was there, the first one on top
pub record Pushes (places : List ℕ) (old new : List ℕ) : Type 0 where
  pub added : List ℕ
  pub all : new ≡ old ++ added
  pub are_chosen : reverse added ≡ chosen (reverse old) places
