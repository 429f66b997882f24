use Rattle.std.proofs.Common.{refl}
use Rattle.machine.proofs.Stacks.{units_less, units_enough, units_end, units_test}
use Rattle.machine.proofs.operands.has_units.Goals as goal

pub loop-value-preserved : goal.loop-value-preserved
loop-value-preserved c = rw c.value_units-units.ensures (units_less c.args.stack.now c.loop-value.value-index _ c.loop-value.left c.args.count c.loop-value-test.true c.loop-value.invariant (rw (← c.value_units-units.ensures) c.if-left-units.false))

pub returns-then-left-units : goal.returns-then-left-units
returns-then-left-units c = (λ t. units_enough c.args.stack.now c.loop-value.value-index _ c.loop-value.left c.args.count c.loop-value-test.true c.loop-value.invariant (rw c.value_units-units.ensures at c.if-left-units.true), λ t. refl)

pub returns : goal.returns
returns c = units_test _ c.loop-value.left c.args.count (units_end c.args.stack.now c.loop-value.value-index c.loop-value.left c.args.count c.loop-value-test.false c.loop-value.invariant)
