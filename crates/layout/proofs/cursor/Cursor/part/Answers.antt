use Rattle.std.proofs.Common.{rules}
use Rattle.layout.proofs.cursor.Cursor.part.Goals as goal

pub returns-then-self-n : goal.returns-then-self-n
returns-then-self-n c = search rules
