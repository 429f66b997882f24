use Rattle.std.proofs.Common.{rules}
use Rattle.layout.proofs.part.U16Part.take.Goals as goal

pub returns : goal.returns
returns c = search rules
