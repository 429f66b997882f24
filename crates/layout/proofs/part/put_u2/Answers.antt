use Rattle.std.proofs.Common.{rules}
use Rattle.layout.proofs.part.put_u2.Goals as goal

pub returns : goal.returns
returns c = search rules
