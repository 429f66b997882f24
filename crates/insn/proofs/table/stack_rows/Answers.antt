use Rattle.std.proofs.Common.{rules}
use Rattle.insn.proofs.table.stack_rows.Goals as goal

pub returns-clause-all : goal.returns-clause-all
returns-clause-all c = search rules
