use Rattle.hierarchy.proofs.Depths.{is_below}
use Rattle.hierarchy.proofs.laws.is_below_by_depth.Goals as goal

pub returns : goal.returns
returns c = is_below
