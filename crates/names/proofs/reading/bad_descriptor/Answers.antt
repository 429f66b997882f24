use Rattle.std.proofs.Common.{rules}
use Rattle.names.proofs.reading.bad_descriptor.Goals as goal

pub returns : goal.returns
returns c = search rules
