use Rattle.std.proofs.Common.{rules}
use Rattle.insn.proofs.instruction_reading.pairs.Goals as goal

pub returns : goal.returns
returns c = search rules
