use Rattle.std.proofs.Common.{rules}
use Rattle.hierarchy.proofs.index.Index.is_interface.Goals as goal

pub returns-in-None : goal.returns-in-None
returns-in-None g c = search rules
