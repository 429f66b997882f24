use Rattle.std.proofs.Common.{rules}
use Rattle.layout.proofs.cursor.Cursor.starting.Goals as goal

pub returns : goal.returns
returns c = search rules
