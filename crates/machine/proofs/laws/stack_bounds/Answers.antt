use Rattle.machine.proofs.Pushes.{stack_bounds}
use Rattle.machine.proofs.laws.stack_bounds.Goals as goal

pub returns : goal.returns
returns c = stack_bounds
