use Rattle.std.proofs.Common.{rules}
use Rattle.pool.proofs.constant_pool.Pool.text.Goals as goal

pub returns-in-Utf8 : goal.returns-in-Utf8
unfolding Rattle.pool.specs.Lookups.text_at
returns-in-Utf8 c = search rules
