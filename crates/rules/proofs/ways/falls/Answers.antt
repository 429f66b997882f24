use Rattle.std.proofs.Common.{rules}
use Rattle.rules.proofs.ways.falls.Goals as goal

pub returns : goal.returns
returns c = search rules
