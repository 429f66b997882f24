use Rattle.std.proofs.Common.{rules}
use Rattle.rules.proofs.reason.Reason.number.Goals as goal

pub returns-in-MissingOperand : goal.returns-in-MissingOperand
returns-in-MissingOperand c = search rules
