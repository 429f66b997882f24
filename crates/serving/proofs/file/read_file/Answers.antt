use Rattle.serving.proofs.Files.{cut_is_read}
use Rattle.serving.proofs.file.read_file.Goals as goal

pub returns-in_default : goal.returns-in_default
returns-in_default c =
    cut_is_read c.args.file.now c.in-Err.cut.bytes.items c.in-Err.cut.why c.in_default.not-OutOfMemory c.in-Err.ensures.fault c.in-Err.ensures.held
