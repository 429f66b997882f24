use Rattle.std.proofs.Common.{arith, get_or}
use Rattle.frames.specs.declared.vtype.VType.TheVariants.{Top}
use Rattle.frames.specs.VerificationType.{type_of}
use Rattle.frames.proofs.Units.{width_few}
use Rattle.frames.proofs.declaring.units.Goals as goal

pub overflow_add-units : goal.overflow_add-units
overflow_add-units c = omega (arith, c.loop-t.invariant.few, c.loop-t-test.true, c.width.ensures, c.from-units.ensures, c.loop-t.auto.t-index-end, width_few (type_of (get_or c.args.types.now c.loop-t.t-index Top)))
