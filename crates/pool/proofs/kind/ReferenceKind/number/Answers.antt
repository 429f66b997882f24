use Rattle.std.proofs.Common.{rules}
use Rattle.pool.proofs.kind.ReferenceKind.number.Goals as goal

pub returns : goal.returns
returns c = search rules
