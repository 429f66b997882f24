use Rattle.frames.proofs.Types.{types_mean}
use Rattle.frames.proofs.laws.types_mean.Goals as goal

pub returns : goal.returns
returns c = types_mean
