use Rattle.pool.proofs.Writes.{pool_is}
use Rattle.pool.proofs.writing.put_constants.Goals as goal

pub returns : goal.returns
returns c = rw (pool_is c.args.constants.now) c.put_counted.ensures
