use Rattle.std.proofs.Common.{rules}
use Rattle.pool.proofs.reading.float.Goals as goal

pub returns : goal.returns
unfolding Rattle.pool.specs.Entries.one
returns c = search rules
