use Rattle.std.proofs.Common.{get_or, refl, arith}
use Rattle.verify.proofs.numbered.Listed.{index_at}
use Rattle.verify.specs.private.pass.Representatives.{TakesLocal}
use Rattle.verify.proofs.numbered.Representing.{all_more, all_of}
use Rattle.verify.proofs.pass.watching.each_takes.Goals as goal

pub takes-requires-clause-frame : goal.takes-requires-clause-frame
takes-requires-clause-frame g c =
    let fs = c.args.list.now in
    c.requires.list c.loop-i.i (get_or fs c.loop-i.i 0) (index_at fs 0 c.loop-i.i c.loop-i-test.true)

pub loop-i-preserved : goal.loop-i-preserved
loop-i-preserved g c =
    let x = c.args.frames.now in
    let fs = c.args.list.now in
    all_more (λ f. TakesLocal x.types x.declared f c.args.place c.args.number) fs c.loop-i.i (get_or fs c.loop-i.i 0) (index_at fs 0 c.loop-i.i c.loop-i-test.true) c.loop-i.invariant (c.if-not-takes.ensures.0 refl)

pub returns : goal.returns
returns g c = λ t.
    let x = c.args.frames.now in
    all_of (λ f. TakesLocal x.types x.declared f c.args.place c.args.number) c.args.list.now c.loop-i.i c.loop-i.invariant (omega (arith, c.loop-i-test.false))
