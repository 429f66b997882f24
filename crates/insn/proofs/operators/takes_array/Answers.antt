use Rattle.std.proofs.Common.{rules}
use Rattle.insn.proofs.operators.takes_array.Goals as goal

pub returns-in_default : goal.returns-in_default
returns-in_default c = search rules
