use Rattle.blocks.proofs.Judging.{settled_slots_fit}
use Rattle.blocks.proofs.laws.settled_slots_fit.Goals as goal

pub returns : goal.returns
returns c = settled_slots_fit
