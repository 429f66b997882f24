use Rattle.machine.proofs.Breadth.{step_breadth}
use Rattle.machine.proofs.laws.step_breadth.Goals as goal

pub returns : goal.returns
returns c = step_breadth
