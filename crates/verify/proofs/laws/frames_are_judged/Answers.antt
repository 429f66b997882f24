use Rattle.verify.proofs.verdicts.Shown.{frames_are_judged}
use Rattle.verify.proofs.laws.frames_are_judged.Goals as goal

pub returns : goal.returns
returns c = frames_are_judged
