use Rattle.std.proofs.Common.{rules}
use Rattle.layout.proofs.fault.ReadFault.number.Goals as goal

pub returns-in-BadTag : goal.returns-in-BadTag
returns-in-BadTag c = search rules
