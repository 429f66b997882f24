use Rattle.std.proofs.Common.{refl}
use Rattle.file_reads.proofs.memory.read_bytes.Goals as goal

pub returns-in-Err-clause-held : goal.returns-in-Err-clause-held
returns-in-Err-clause-held c = (c.args.file.now, rw c.new.ensures.items refl)
