use Rattle.insn.proofs.CodeSpellings.{read_is_written}
use Rattle.insn.proofs.laws.read_is_written.Goals as goal

pub returns : goal.returns
returns c = read_is_written
