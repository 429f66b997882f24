use Rattle.std.proofs.Common.{rules}
use Rattle.printing.proofs.instruction.Target.place.Goals as goal

pub returns : goal.returns
returns c = search rules
