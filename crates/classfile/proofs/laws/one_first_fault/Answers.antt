use Rattle.classfile.proofs.FirstFaults.{one_fault}
use Rattle.classfile.proofs.laws.one_first_fault.Goals as goal

pub returns : goal.returns
returns c = one_fault
