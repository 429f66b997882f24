use Rattle.std.proofs.Common.{rules}
use Rattle.printing.proofs.faults.PlacePrint.put.Goals as goal

pub returns-in-Field : goal.returns-in-Field
returns-in-Field g c = search rules
