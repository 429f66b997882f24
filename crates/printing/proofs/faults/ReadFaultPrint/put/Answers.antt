use Rattle.std.proofs.Common.{rules}
use Rattle.printing.proofs.faults.ReadFaultPrint.put.Goals as goal

pub returns-in-AttributeLength : goal.returns-in-AttributeLength
returns-in-AttributeLength g c = search rules
