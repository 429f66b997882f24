use Rattle.std.proofs.Common.{rules}
use Rattle.pool.proofs.reading.read_pool.Goals as goal

pub returns-then-count-eq0 : goal.returns-then-count-eq0
unfolding Rattle.pool.specs.Entries.pool
returns-then-count-eq0 c = search rules

pub returns : goal.returns
unfolding Rattle.pool.specs.Entries.pool
returns c = search rules
