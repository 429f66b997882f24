use Rattle.std.proofs.Common.{rules}
use Rattle.insn.proofs.encoding.is_too_large.Goals as goal

pub loop-insn-init : goal.loop-insn-init
loop-insn-init c = search rules
