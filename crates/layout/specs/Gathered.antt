-- The bytes that are held of a stream, and for how many in all there is memory.
use Rattle.std.specs.Prelude.{ℕ, List}

pub record Gathered : Type 0 where
  pub bytes : List ℕ
  pub capacity : ℕ
