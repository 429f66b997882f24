use Rattle.std.proofs.Common.{rules}
use Rattle.layout.proofs.cursor.Cursor.at.Goals as goal

pub returns-clause-place : goal.returns-clause-place
returns-clause-place c = search rules
