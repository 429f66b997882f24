use Rattle.std.proofs.Common.{arith}
use Rattle.method_frames.proofs.MapUnits.{units_appended, units_in_all}
use Rattle.method_frames.proofs.declaring.units_after.Goals as goal

pub overflow_add-result : goal.overflow_add-result
overflow_add-result c = omega (arith, c.requires, c.units_given.ensures.few, c.deref.ensures.len, c.in-Append.locals.ok.0)

pub returns-in-Append : goal.returns-in-Append
returns-in-Append c pool ts e = rw c.in-Append.is (units_appended pool ts c.in-Append.locals.items c.deref.result.now c.args.units c.units_given.result c.deref.ensures.value e (c.units_given.ensures.units pool))

pub returns-in-Full : goal.returns-in-Full
returns-in-Full c pool ts e = rw c.in-Full.is (units_in_all pool c.in-Full.locals.items c.deref-in-Full.result.now c.units_given-in-Full.result c.deref-in-Full.ensures.value (c.units_given-in-Full.ensures.units pool))
