use Rattle.std.proofs.Common.{◌∙◌}
use Rattle.insn.proofs.Places.{begins}
use Rattle.machine.proofs.starts.has_offset.Goals as goal

pub returns : goal.returns
returns c = c.is_rising_start.ensures ∙ begins c.args.list.now c.args.at
