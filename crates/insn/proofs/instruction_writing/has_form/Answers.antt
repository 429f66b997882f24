use Rattle.std.proofs.Common.{rules}
use Rattle.insn.proofs.instruction_writing.has_form.Goals as goal

pub returns-clause-yes : goal.returns-clause-yes
returns-clause-yes c = search rules
