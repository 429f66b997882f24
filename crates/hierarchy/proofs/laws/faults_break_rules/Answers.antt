use Rattle.hierarchy.proofs.OneFault.{broken}
use Rattle.hierarchy.proofs.laws.faults_break_rules.Goals as goal

pub returns : goal.returns
returns c = broken
