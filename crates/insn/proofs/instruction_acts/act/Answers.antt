use Rattle.std.proofs.Common.{rules}
use Rattle.insn.proofs.instruction_acts.act.Goals as goal

pub returns : goal.returns
returns c = search rules
