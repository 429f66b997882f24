use Rattle.frames.proofs.Frames.{frame_itself}
use Rattle.frames.proofs.laws.frames_to_themselves.Goals as goal

pub returns : goal.returns
returns c = frame_itself
