use Rattle.insn.proofs.CodeSpellings.{written_is_read}
use Rattle.insn.proofs.laws.written_is_read.Goals as goal

pub returns : goal.returns
returns c = written_is_read
