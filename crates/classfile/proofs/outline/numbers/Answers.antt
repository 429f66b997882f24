use Rattle.std.proofs.lemmas.Result.{err_from_is_err_and}
use Rattle.layout.specs.Format.{number}
use Rattle.classfile.specs.Outline.{numbers}
use Rattle.classfile.proofs.Outlines.{repeated_start, repeated_on, repeated_stop, repeated_end}
use Rattle.classfile.proofs.outline.numbers.Goals as goal

pub returns-in_err-u2 : goal.returns-in_err-u2
unfolding numbers
returns-in_err-u2 g c =
    let p = err_from_is_err_and c.from_residual.result c.from_residual.ensures.1 in
    rw (p.1, p.2) (repeated_stop (number 2) (λ x. x) c.args.count c.loop.counter c.loop.reading.bytes _ _ _ _ _ c.in_err-u2.field-0.0 c.loop-test.true c.loop.invariant c.in_err-u2.ensures)

pub loop-preserved : goal.loop-preserved
loop-preserved g c = repeated_on (number 2) c.args.count c.loop.counter _ c.loop.reading.bytes _ _ _ _ _ c.loop-test.true c.loop.invariant c.in_ok-u2.ensures

pub returns : goal.returns
unfolding numbers
returns g c = repeated_end (number 2) c.args.count c.loop.counter c.loop.reading.bytes _ _ _ c.loop-test.false c.loop.invariant

pub loop-init : goal.loop-init
loop-init g c = repeated_start (number 2) _ _ _
