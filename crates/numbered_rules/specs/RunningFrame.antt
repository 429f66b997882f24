-- The frame that the running frame of a method stands for, and what instructions leave as it is.
use Rattle.std.specs.Prelude.{◌≡◌, length}
use Rattle.frames.specs.FrameFact.{FrameFact}
use Rattle.method_frames.specs.NumberedFrames.{NumberedFrames, frame_by}

abbrev pub held : NumberedFrames → FrameFact
held x = frame_by x.types x.running

-- nothing but the running frame is another, and it has as many local variables
pub record IsRunning (old new : NumberedFrames) : Type 0 where
  pub others : new ≡ record old { running = new.running }
  pub size : length new.running.locals ≡ length old.running.locals
