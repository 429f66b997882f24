use Rattle.frames.proofs.Frames.{one_frame_answer}
use Rattle.frames.proofs.laws.frames_have_one_answer.Goals as goal

pub returns : goal.returns
returns c = one_frame_answer
