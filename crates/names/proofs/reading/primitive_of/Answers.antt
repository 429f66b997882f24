use Rattle.std.proofs.Common.{rules}
use Rattle.names.proofs.reading.primitive_of.Goals as goal

pub returns-in-90 : goal.returns-in-90
returns-in-90 c = search rules
