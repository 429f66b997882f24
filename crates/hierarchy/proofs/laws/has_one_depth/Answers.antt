use Rattle.hierarchy.proofs.Depths.{has_one}
use Rattle.hierarchy.proofs.laws.has_one_depth.Goals as goal

pub returns : goal.returns
returns c = has_one
