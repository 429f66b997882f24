use Rattle.std.proofs.Common.{length, ap, subst, arith}
use Rattle.frames.specs.VerificationType.{type_of}
use Rattle.type_numbers.specs.Numbers.{IsNumber}
use Rattle.method_frames.proofs.Typing.{typed_more}
use Rattle.method_frames.proofs.type_rows.TypeRows.running_types.Goals as goal

pub loop-place-preserved : goal.loop-place-preserved
loop-place-preserved g c =
    let now = c.args.self.now in
    let long = ap (λ y. length y.running) c.self.view_is in
    typed_more now.types now.running c.loop-place.place c.get.result c.loop-place.types.items c.push.new.self.items c.vtype.result (omega (arith, c.loop-place-test.true, c.slots-place-end.ensures.count, long))
    c.loop-place.invariant c.get.ensures.number (subst (λ y. IsNumber y.types c.get.result (type_of c.vtype.result)) c.self.view_is c.vtype.ensures) c.in_ok-push.ensures.items
