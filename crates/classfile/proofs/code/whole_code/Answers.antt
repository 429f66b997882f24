use Rattle.std.proofs.Common.{rules}
use Rattle.classfile.proofs.code.whole_code.Goals as goal

pub returns : goal.returns
returns c = search rules
