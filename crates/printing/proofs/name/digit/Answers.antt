use Rattle.std.proofs.Common.{rules}
use Rattle.printing.proofs.name.digit.Goals as goal

pub returns-else-n-lt10 : goal.returns-else-n-lt10
returns-else-n-lt10 c = search rules
