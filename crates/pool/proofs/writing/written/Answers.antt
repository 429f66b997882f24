use Rattle.pool.specs.Entries.{pool_pieces}
use Rattle.pool.proofs.writing.written.Goals as goal

pub returns : goal.returns
returns c = c.delivered.ensures (pool_pieces c.args.pool.now) (rw c.new-out.ensures at c.put_pool-answer.ensures)
