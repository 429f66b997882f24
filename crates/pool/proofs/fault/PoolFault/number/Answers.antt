use Rattle.std.proofs.Common.{rules}
use Rattle.pool.proofs.fault.PoolFault.number.Goals as goal

pub returns-in-BadIndex : goal.returns-in-BadIndex
returns-in-BadIndex c = search rules
