use Rattle.std.proofs.Common.{rules}
use Rattle.insn.proofs.opcode.Opcode.number.Goals as goal

pub returns : goal.returns
returns c = search rules
