use Rattle.classfile.proofs.Classes.{same_spelling}
use Rattle.classfile.proofs.laws.one_spelling.Goals as goal

pub returns : goal.returns
returns c = same_spelling
