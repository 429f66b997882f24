use Rattle.classfile.proofs.Classes.{same_fault}
use Rattle.classfile.proofs.laws.one_fault.Goals as goal

pub returns : goal.returns
returns c = same_fault
