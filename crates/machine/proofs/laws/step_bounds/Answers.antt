use Rattle.machine.proofs.Bounds.{step_bounds}
use Rattle.machine.proofs.laws.step_bounds.Goals as goal

pub returns : goal.returns
returns c = step_bounds
