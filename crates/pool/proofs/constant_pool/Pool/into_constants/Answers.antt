use Rattle.std.proofs.Common.{rules}
use Rattle.pool.proofs.constant_pool.Pool.into_constants.Goals as goal

pub returns : goal.returns
returns c = search rules
