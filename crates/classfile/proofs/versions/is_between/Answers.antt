use Rattle.std.proofs.Common.{rules}
use Rattle.classfile.proofs.versions.is_between.Goals as goal

pub returns-else-major-le55 : goal.returns-else-major-le55
returns-else-major-le55 c = search rules
