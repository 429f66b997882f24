use Rattle.std.proofs.Common.{rules}
use Rattle.insn.proofs.kinds.computed_as.Goals as goal

pub returns-in-Float : goal.returns-in-Float
returns-in-Float c = search rules
