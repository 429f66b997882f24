use Rattle.std.proofs.Common.{◌<◌, length, subst, arith}
use Rattle.type_numbers.specs.Numbers.{IsGiven}
use Rattle.method_frames.proofs.Given.{top_given}
use Rattle.method_frames.proofs.Knowing.{declared_given}
use Rattle.method_frames.proofs.type_rows.TypeRows.declared.Goals as goal

pub returns-then-place-slots-clause-given : goal.returns-then-place-slots-clause-given
returns-then-place-slots-clause-given g c =
    let x = c.self.inside in
    let inside : c.args.place < length c.args.self.now.running = subst (λ y. c.args.place < length y.running) c.self.view_is (omega (arith, c.if-place-slots.true, c.slots.ensures.count)) in
    subst (λ y. IsGiven y.types c.get_declared.result) c.self.view_is
    (declared_given x.types.now x.rows c.args.self.now c.self.view_is c.self.invariant.held.known c.args.row c.args.place c.get_declared.result c.requires inside c.get_declared.ensures)

pub returns-else-place-slots-clause-given : goal.returns-else-place-slots-clause-given
returns-else-place-slots-clause-given g c = top_given c.args.self.now.types
