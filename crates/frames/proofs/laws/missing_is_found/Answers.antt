use Rattle.frames.proofs.Differences.{missing_is_found}
use Rattle.frames.proofs.laws.missing_is_found.Goals as goal

pub returns : goal.returns
returns c = missing_is_found
