use Rattle.std.proofs.Common.{rules}
use Rattle.classfile.proofs.component.whole_components.Goals as goal

pub returns : goal.returns
returns c = search rules
