use Rattle.std.proofs.Common.{rules}
use Rattle.printing.proofs.instruction.Located.wide.Goals as goal

pub returns-in-WideLocal : goal.returns-in-WideLocal
returns-in-WideLocal c = search rules
