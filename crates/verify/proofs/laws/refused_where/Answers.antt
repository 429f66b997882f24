use Rattle.verify.proofs.verdicts.Refused.{refused_where}
use Rattle.verify.proofs.laws.refused_where.Goals as goal

pub returns : goal.returns
returns c = refused_where
