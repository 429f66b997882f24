use Rattle.classfile.proofs.Classes.{one_or_other}
use Rattle.classfile.proofs.laws.class_or_fault.Goals as goal

pub returns : goal.returns
returns c = one_or_other
