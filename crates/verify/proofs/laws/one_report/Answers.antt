use Rattle.verify.proofs.verdicts.OneVerdict.{one_report}
use Rattle.verify.proofs.laws.one_report.Goals as goal

pub returns : goal.returns
returns c = one_report
