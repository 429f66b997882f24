use Rattle.frames.proofs.Differences.{differences_are_no}
use Rattle.frames.proofs.laws.differences_are_no.Goals as goal

pub returns : goal.returns
returns c = differences_are_no
