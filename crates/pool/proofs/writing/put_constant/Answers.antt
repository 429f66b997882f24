use Rattle.std.proofs.Common.{rules}
use Rattle.pool.proofs.writing.put_constant.Goals as goal

pub returns-in-String : goal.returns-in-String
returns-in-String c = search rules
