use Rattle.std.proofs.Common.{rules}
use Rattle.classfile.proofs.class_file.put_marked.Goals as goal

pub returns : goal.returns
returns c = search rules
