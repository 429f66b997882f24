use Rattle.std.proofs.Common.{rules}
use Rattle.names.proofs.fault.NameFault.number.Goals as goal

pub returns-in-TooWide : goal.returns-in-TooWide
returns-in-TooWide c = search rules
