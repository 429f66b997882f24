-- The frames of one method (JVMS 4.10.1.4) by the numbers of their types.
use Rattle.std.specs.Prelude.{ℕ, List, [], Bool, false, slice_index_or}
use Rattle.frames.specs.FrameFact.{FrameFact}
use Rattle.type_numbers.specs.Numbers.{Numbering}
use Rattle.type_numbers.specs.Decoding.{types_by}

pub record NumberedFrame : Type 0 where
  -- the locals from 0 up
  pub locals : List ℕ
  -- the stack, its top first
  pub stack : List ℕ
  -- whether the own object is uninitialized
  pub flag : Bool

-- the frame with its types
abbrev pub frame_by : Numbering → NumberedFrame → FrameFact
frame_by s f = record { locals = types_by s f.locals; stack = types_by s f.stack; flag = f.flag }

pub record NumberedFrames : Type 0 where
  -- the numbers that were given to types
  pub types : Numbering
  -- how many items the stack of a frame has that is declared, at most
  pub limit : ℕ
  -- the running frame
  pub running : NumberedFrame
  -- the declared frames, each with its offset, in the order in which they were declared
  pub declared : List (ℕ × NumberedFrame)
  -- the locals that the running frame had when they were kept last, at first all Top
  pub kept : List ℕ

abbrev pub empty_frame : NumberedFrame
empty_frame = record { locals = []; stack = []; flag = false }

abbrev pub declared_frame : NumberedFrames → ℕ → NumberedFrame
declared_frame x frame = (slice_index_or x.declared frame (0, empty_frame)).1
