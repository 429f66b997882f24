use Rattle.machine.proofs.RunBreadth.{run_breadth}
use Rattle.machine.proofs.laws.run_breadth.Goals as goal

pub returns : goal.returns
returns c = run_breadth
