use Rattle.std.proofs.Common.{rules}
use Rattle.printing.proofs.instruction.put_case.Goals as goal

pub returns : goal.returns
returns g c = search rules
