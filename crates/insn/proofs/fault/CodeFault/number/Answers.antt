use Rattle.std.proofs.Common.{rules}
use Rattle.insn.proofs.fault.CodeFault.number.Goals as goal

pub returns-in-BadWide : goal.returns-in-BadWide
returns-in-BadWide c = search rules
