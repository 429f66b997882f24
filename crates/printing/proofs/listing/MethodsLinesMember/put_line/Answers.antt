use Rattle.std.proofs.Common.{rules}
use Rattle.printing.proofs.listing.MethodsLinesMember.put_line.Goals as goal

pub returns : goal.returns
returns g c = search rules
