use Rattle.std.proofs.Common.{rules}
use Rattle.machine.proofs.choosing.StepFault.number.Goals as goal

pub returns-in-NotAChoice : goal.returns-in-NotAChoice
returns-in-NotAChoice c = search rules
