use Rattle.classfile.proofs.Classes.{same_class}
use Rattle.classfile.proofs.laws.one_class.Goals as goal

pub returns : goal.returns
returns c = same_class
