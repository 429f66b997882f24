use Rattle.std.proofs.Common.{rules, arith}
use Rattle.names.specs.declared.base.Base.TheVariants.{Primitive}
use Rattle.names.specs.declared.base.Primitive.TheVariants.{Byte}
use Rattle.names.specs.declared.descriptor.FieldType.{FieldType}
use Rattle.names.proofs.Written.{width_at_most_two, one_more_width}
use Rattle.names.proofs.descriptor.MethodType.width.Goals as goal

pub loop-param-preserved : goal.loop-param-preserved
loop-param-preserved c =
    let width = rw c.deref-param-items.ensures.value at c.width.ensures in
    let none : FieldType = record { dims = 0; base = Primitive Byte } in
    let more = one_more_width c.args.self.now.params.items c.loop-param.param-index none (rw c.deref-param-items.ensures.value at c.loop-param-test.true) in
    record { so_far = omega (arith, width, more); few = omega (arith, width, width_at_most_two) }

pub loop-param-init : goal.loop-param-init
loop-param-init c = search rules
