use Rattle.std.proofs.Common.{rules}
use Rattle.insn.proofs.instruction_reading.widened.Goals as goal

pub returns-in-Nothing : goal.returns-in-Nothing
returns-in-Nothing c = search rules
