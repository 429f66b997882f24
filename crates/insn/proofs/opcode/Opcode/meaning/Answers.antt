use Rattle.std.proofs.Common.{rules}
use Rattle.insn.proofs.opcode.Opcode.meaning.Goals as goal

pub returns : goal.returns
returns c = search rules
