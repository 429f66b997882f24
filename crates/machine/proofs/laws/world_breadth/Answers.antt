use Rattle.machine.proofs.Breadth.{world_breadth}
use Rattle.machine.proofs.laws.world_breadth.Goals as goal

pub returns : goal.returns
returns c = world_breadth
