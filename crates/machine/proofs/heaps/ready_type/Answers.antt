use Rattle.std.proofs.Common.{rules}
use Rattle.machine.proofs.heaps.ready_type.Goals as goal

pub returns-in-Made : goal.returns-in-Made
returns-in-Made c = search rules
