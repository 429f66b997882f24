use Rattle.machine.proofs.RunBreadth.{start_breadth}
use Rattle.machine.proofs.laws.start_breadth.Goals as goal

pub returns : goal.returns
returns c = start_breadth
