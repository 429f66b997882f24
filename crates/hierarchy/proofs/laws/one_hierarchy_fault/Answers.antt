use Rattle.hierarchy.proofs.OneFault.{one_fault}
use Rattle.hierarchy.proofs.laws.one_hierarchy_fault.Goals as goal

pub returns : goal.returns
returns c = one_fault
