use Rattle.std.proofs.Common.{rules}
use Rattle.insn.proofs.instructions.Instructions.new.Goals as goal

pub returns : goal.returns
returns c = search rules
