-- The frame that is declared at an offset, by its place.
use Rattle.std.specs.Prelude.{◌≡◌, ℕ, ℤ, ◌<◌, List, length, slice_get, slice_index_or, Some}
use Rattle.frames.specs.FrameFact.{FrameFact}
use Rattle.type_numbers.specs.Numbers.{Numbering}
use Rattle.method_frames.specs.NumberedFrames.{NumberedFrame, empty_frame, frame_by}
use Rattle.method_frames.specs.MapFrames.{frames_by}
use Rattle.verify.specs.TypeSafety.{Frames}
use Rattle.verify.specs.Verdict.{declared_at}

-- the frame that is declared at a target stands there in the list
pub record IsPlace (frames : Frames) (target : ℤ) (place : ℕ) (f : FrameFact) : Type 0 where
  pub declared : declared_at frames target ≡ Some f
  pub at : ℕ
  pub here : slice_get frames place ≡ Some (at, f)

abbrev pub frame_in : List (ℕ × NumberedFrame) → ℕ → NumberedFrame
frame_in ds frame = (slice_index_or ds frame (0, empty_frame)).1

-- the frame of this place is declared at a target
pub record IsFound (s : Numbering) (ds : List (ℕ × NumberedFrame)) (target : ℤ) (frame : ℕ) : Type 0 where
  pub within : frame < length ds
  pub place : IsPlace (frames_by s ds) target frame (frame_by s (frame_in ds frame))
