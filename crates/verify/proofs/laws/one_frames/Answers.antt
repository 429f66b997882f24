use Rattle.verify.proofs.verdicts.OneVerdict.{one_frames}
use Rattle.verify.proofs.laws.one_frames.Goals as goal

pub returns : goal.returns
returns c = one_frames
