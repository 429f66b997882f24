use Rattle.std.proofs.Common.{rules}
use Rattle.classfile.proofs.flags.has.Goals as goal

pub returns : goal.returns
unfolding Rattle.classfile.specs.Flags.has
returns c = search rules
