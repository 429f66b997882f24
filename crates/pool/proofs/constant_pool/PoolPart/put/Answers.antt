use Rattle.std.proofs.Common.{rules}
use Rattle.pool.proofs.constant_pool.PoolPart.put.Goals as goal

pub returns-in_err-bytes : goal.returns-in_err-bytes
returns-in_err-bytes c = search rules

pub returns-in_err-extend_from_slice : goal.returns-in_err-extend_from_slice
returns-in_err-extend_from_slice c = search rules

pub returns : goal.returns
returns c = search rules
