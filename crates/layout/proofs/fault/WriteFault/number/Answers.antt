use Rattle.std.proofs.Common.{rules}
use Rattle.layout.proofs.fault.WriteFault.number.Goals as goal

pub returns-in-DoesNotFit : goal.returns-in-DoesNotFit
returns-in-DoesNotFit c = search rules
