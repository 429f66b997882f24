use Rattle.blocks.proofs.Judging.{truths_stay}
use Rattle.blocks.proofs.laws.truths_stay.Goals as goal

pub returns : goal.returns
returns c = truths_stay
