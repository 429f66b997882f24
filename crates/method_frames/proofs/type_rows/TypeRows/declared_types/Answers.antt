use Rattle.std.proofs.Common.{subst, arith}
use Rattle.frames.specs.VerificationType.{type_of}
use Rattle.type_numbers.specs.Numbers.{IsNumber}
use Rattle.method_frames.specs.NumberedRows.{declared_in}
use Rattle.method_frames.proofs.Knowing.{declared_even}
use Rattle.method_frames.proofs.Typing.{typed_more}
use Rattle.method_frames.proofs.type_rows.TypeRows.declared_types.Goals as goal

pub loop-place-preserved : goal.loop-place-preserved
loop-place-preserved g c =
    let x = c.self.inside in
    let now = c.args.self.now in
    let long = declared_even x.types.now x.rows now c.self.view_is c.self.invariant.held.known c.args.row c.requires.row in
    typed_more now.types (declared_in now c.args.row) c.loop-place.place c.declared.result c.loop-place.types.items c.push.new.self.items c.vtype.result (omega (arith, c.loop-place-test.true, c.requires.count, long))
    c.loop-place.invariant c.declared.ensures.number (subst (λ y. IsNumber y.types c.declared.result (type_of c.vtype.result)) c.self.view_is c.vtype.ensures) c.in_ok-push.ensures.items
