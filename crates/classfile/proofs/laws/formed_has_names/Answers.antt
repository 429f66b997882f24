use Rattle.classfile.proofs.FormedNames.{formed_has_names}
use Rattle.classfile.proofs.laws.formed_has_names.Goals as goal

pub returns : goal.returns
returns c = formed_has_names
