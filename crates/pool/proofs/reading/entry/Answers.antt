use Rattle.std.proofs.Common.{rules}
use Rattle.pool.proofs.reading.entry.Goals as goal

pub returns-in-5 : goal.returns-in-5
unfolding Rattle.pool.specs.Entries.entry
returns-in-5 c = search rules

pub returns-in_default : goal.returns-in_default
unfolding Rattle.pool.specs.Entries.entry
returns-in_default c = search rules
