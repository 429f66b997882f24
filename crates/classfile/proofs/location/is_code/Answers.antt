use Rattle.std.proofs.Common.{rules}
use Rattle.classfile.proofs.location.is_code.Goals as goal

pub returns-in-Method : goal.returns-in-Method
returns-in-Method c = search rules
