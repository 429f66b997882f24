use Rattle.std.proofs.Common.{rules}
use Rattle.classck.proofs.reading.read_all.Goals as goal

pub loop-i-preserved : goal.loop-i-preserved
loop-i-preserved c = search rules
