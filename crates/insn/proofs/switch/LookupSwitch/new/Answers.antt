use Rattle.std.proofs.Common.{rules}
use Rattle.insn.proofs.switch.LookupSwitch.new.Goals as goal

pub returns-clause-count : goal.returns-clause-count
returns-clause-count c = search rules
