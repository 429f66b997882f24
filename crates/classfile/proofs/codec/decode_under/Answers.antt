use Rattle.std.proofs.Common.{rules}
use Rattle.classfile.proofs.codec.decode_under.Goals as goal

pub returns-clause-only : goal.returns-clause-only
returns-clause-only c = search rules

pub returns-clause-fault : goal.returns-clause-fault
returns-clause-fault c = search rules
