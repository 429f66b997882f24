use Rattle.hierarchy.proofs.Overrides.{computes}
use Rattle.hierarchy.proofs.laws.overrides_are_computed.Goals as goal

pub returns : goal.returns
returns c = computes
