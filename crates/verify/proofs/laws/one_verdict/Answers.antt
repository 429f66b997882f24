use Rattle.verify.proofs.verdicts.OneVerdict.{one_verdict}
use Rattle.verify.proofs.laws.one_verdict.Goals as goal

pub returns : goal.returns
returns c = one_verdict
