use Rattle.std.proofs.Common.{rules}
use Rattle.pool.proofs.constant_pool.PoolPart.take.Goals as goal

pub returns-in_err-pool : goal.returns-in_err-pool
returns-in_err-pool c = search rules
