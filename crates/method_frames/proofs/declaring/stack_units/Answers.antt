use Rattle.method_frames.proofs.MapUnits.{units_on_stack}
use Rattle.method_frames.proofs.declaring.stack_units.Goals as goal

pub returns-in-Full : goal.returns-in-Full
returns-in-Full c pool = rw c.in-Full.is (units_on_stack pool c.in-Full.stack.items c.deref.result.now c.units_given.result c.deref.ensures.value (c.units_given.ensures.units pool))
