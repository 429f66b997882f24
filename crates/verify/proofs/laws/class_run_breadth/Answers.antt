use Rattle.verify.proofs.safety.ClassRunBreadth.{class_run_breadth}
use Rattle.verify.proofs.laws.class_run_breadth.Goals as goal

pub returns : goal.returns
returns c = class_run_breadth c.step_breadth.ensures
