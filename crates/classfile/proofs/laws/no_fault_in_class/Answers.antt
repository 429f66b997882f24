use Rattle.classfile.proofs.Classes.{not_both}
use Rattle.classfile.proofs.laws.no_fault_in_class.Goals as goal

pub returns : goal.returns
returns c = not_both
