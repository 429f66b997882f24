use Rattle.std.proofs.Common.{rules}
use Rattle.pool.proofs.writing.put_wide.Goals as goal

pub returns : goal.returns
returns c = search rules
