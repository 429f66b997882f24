use Rattle.std.proofs.Common.{rules}
use Rattle.hierarchy.proofs.fault.HierarchyFault.number.Goals as goal

pub returns-in-NoObject : goal.returns-in-NoObject
returns-in-NoObject c = search rules
