use Rattle.verify.proofs.verdicts.MapFaults.{map_refused_where}
use Rattle.verify.proofs.laws.map_refused_where.Goals as goal

pub returns : goal.returns
returns c = map_refused_where
