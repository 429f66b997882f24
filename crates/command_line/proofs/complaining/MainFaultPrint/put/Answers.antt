use Rattle.std.proofs.Common.{rules}
use Rattle.command_line.proofs.complaining.MainFaultPrint.put.Goals as goal

pub returns-in-CannotOpen : goal.returns-in-CannotOpen
returns-in-CannotOpen g c = search rules
