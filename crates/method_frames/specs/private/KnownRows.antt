-- Facts about the rows of a method: their numbers were given to types, and pairs that were said to fit do.
use Rattle.std.specs.Prelude.{◌≡◌, ℕ, ◌<◌, Bool, true, false, List, length, slice_index}
use Rattle.hierarchy.specs.Answer.{Outcome, yes, no, missing}
use Rattle.frames.specs.Assignable.{type_answer}
use Rattle.type_numbers.specs.Numbers.{Numbering, IsGiven}
use Rattle.type_numbers.specs.Decoding.{type_by}
use Rattle.blocks.specs.Rows.{Rows, declared_row}
use Rattle.blocks.specs.Judgements.{IsTrueBy}

abbrev pub is_yes : Outcome → Bool
is_yes yes = true
is_yes no = false
is_yes (missing name) = false

-- the type of one number is assignable to that of another
abbrev pub fits : Numbering → ℕ → ℕ → Bool
fits s from to = is_yes (type_answer s.classes (type_by s from) (type_by s to))

-- each number of a row was given to a type
abbrev pub AreGiven : Numbering → List ℕ → Type 0
AreGiven s row = (place : ℕ) → place < length row → IsGiven s (slice_index row place)

pub record AreKnown (s : Numbering) (rows : Rows) : Type 0 where
  pub running : AreGiven s rows.running
  pub declared : (row : ℕ) → row < length rows.declared → AreGiven s (declared_row rows row)
  -- each row is as long as the running one
  pub even : (row : ℕ) → row < length rows.declared → length (declared_row rows row) ≡ length rows.running
  pub known : IsTrueBy (fits s) rows
