-- Operand stacks as they are kept: the items of the running one, and rows that hold the items of each from the bottom
-- up, with Top above.
use Rattle.std.specs.Prelude.{◌≡◌, ℕ, ◌≤◌, ◌<◌, List, length, map, take, reverse, slice_index, slice_get, Some}
use Rattle.method_frames.specs.NumberedRows.{NumberedRows, declared_in}
use Rattle.method_frames.specs.NumberedStacks.{NumberedStacks}
use Rattle.method_frames.specs.private.KnownRows.{AreGiven}
use Rattle.method_frames.specs.private.Counted.{IsCounted}
use Rattle.method_frames.specs.declared.stack_rows.Height.{Height}

-- the stack of this height whose items a declared row holds
abbrev pub stack_at : NumberedRows → Height → List ℕ
stack_at rows h = reverse (take h.depth (declared_in rows h.row))

abbrev pub stacks_of : List ℕ → NumberedRows → List Height → NumberedStacks
stacks_of items rows heights = record {
  types = rows.types;
  limit = length rows.running;
  running = items;
  declared = map (stack_at rows) heights;
}

-- a declared row holds a stack of this height, and Top above
pub record IsHeight (rows : NumberedRows) (h : Height) : Type 0 where
  pub row : h.row < length rows.declared
  pub even : length (declared_in rows h.row) ≡ length rows.running
  pub depth : h.depth ≤ length rows.running
  pub tops : (place : ℕ) → h.depth ≤ place → slice_index (declared_in rows h.row) place ≡ 0
  pub counted : IsCounted (take h.depth (declared_in rows h.row)) h.wides

-- the running row holds the items below one place, and Top from another one on
pub record AreStacks (items : List ℕ) (rows : NumberedRows) (written high : ℕ) (heights : List Height) : Type 0 where
  pub given : AreGiven rows.types items
  pub few : written ≤ length items
  pub low : high ≤ length rows.running
  pub same : (place : ℕ) → place < written → slice_index rows.running place ≡ slice_index (reverse items) place
  pub tops : (place : ℕ) → high ≤ place → slice_index rows.running place ≡ 0
  pub declared : (k : ℕ) (h : Height) → slice_get heights k ≡ Some h → IsHeight rows h

-- the running row has changed at places from one on and in front of another one only, if at all
pub record Changes (from to : ℕ) (old new : NumberedRows) : Type 0 where
  pub rest : new ≡ record old { running = new.running }
  pub even : length new.running ≡ length old.running
  pub below : (place : ℕ) → place < from → slice_index new.running place ≡ slice_index old.running place
  pub above : (place : ℕ) → to ≤ place → slice_index new.running place ≡ slice_index old.running place

-- the running row holds the items at places from one on and in front of another one
pub record Holds (items : List ℕ) (from to : ℕ) (rows : NumberedRows) : Type 0 where
  pub here : (place : ℕ) → from ≤ place → place < to
      → slice_index rows.running place ≡ slice_index (reverse items) place
