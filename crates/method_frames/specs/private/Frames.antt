-- The frames of a method as they are kept: rows of their locals, their stacks, and a table of the places of the
-- declared ones by their offsets.
use Rattle.std.specs.Prelude.{◌≡◌, ℕ, ◌+◌, ◌<◌, Bool, List, length, map, slice_index, slice_get, Some, None}
use Rattle.insn.specs.Offsets.{at_offset}
use Rattle.method_frames.specs.NumberedRows.{NumberedRows, declared_in}
use Rattle.method_frames.specs.NumberedStacks.{NumberedStacks, declared_stack}
use Rattle.method_frames.specs.NumberedFrames.{NumberedFrame, NumberedFrames}
use Rattle.method_frames.specs.declared.method_frames.Declared.{Declared}

-- a declared frame with its offset
abbrev pub frame_at : NumberedRows → NumberedStacks → Declared → ℕ × NumberedFrame
frame_at rows stacks d =
    (d.offset, record { locals = declared_in rows d.locals; stack = declared_stack stacks d.stack; flag = d.flag })

abbrev pub frames_of : NumberedRows → NumberedStacks → Bool → List Declared → NumberedFrames
frames_of rows stacks flag frames = record {
  types = rows.types;
  limit = stacks.limit;
  running = record { locals = rows.running; stack = stacks.running; flag = flag };
  declared = map (frame_at rows stacks) frames;
  kept = rows.kept;
}

-- the parts of a declared frame are there
pub record HasParts (rows : NumberedRows) (stacks : NumberedStacks) (d : Declared) : Type 0 where
  pub locals : d.locals < length rows.declared
  pub even : length (declared_in rows d.locals) ≡ length rows.running
  pub stack : d.stack < length stacks.declared

-- a place that a table has for an offset, counted from 1, is that of the frame that is declared there; where it has
-- none, there is none
pub record IsPlaceTable (places : List ℕ) (frames : List (ℕ × NumberedFrame)) : Type 0 where
  pub none : (at : ℕ) → slice_index places at ≡ 0 → at_offset frames at ≡ None
  pub some : (at frame : ℕ) → slice_index places at ≡ frame + 1
      → (f : NumberedFrame) × (slice_get frames frame ≡ Some (at, f)) × (at_offset frames at ≡ Some f)

pub record AreFrames (rows : NumberedRows) (stacks : NumberedStacks) (max_locals : ℕ) (frames : List Declared)
    (places : List ℕ) : Type 0 where
  pub types : stacks.types ≡ rows.types
  pub count : length rows.running ≡ max_locals
  pub declared : (k : ℕ) (d : Declared) → slice_get frames k ≡ Some d → HasParts rows stacks d
  pub table : IsPlaceTable places (map (frame_at rows stacks) frames)
