use Rattle.std.proofs.Common.{rules}
use Rattle.classfile.proofs.table.take_table.Goals as goal

pub returns : goal.returns
returns g c = search rules
