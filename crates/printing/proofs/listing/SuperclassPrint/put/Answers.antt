use Rattle.std.proofs.Common.{rules}
use Rattle.printing.proofs.listing.SuperclassPrint.put.Goals as goal

pub returns-then-self-eq0 : goal.returns-then-self-eq0
returns-then-self-eq0 g c = search rules
