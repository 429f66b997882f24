use Rattle.std.proofs.lemmas.Result.{err_from_is_err_and}
use Rattle.layout.specs.Format.{number}
use Rattle.classfile.specs.Outline.{numbers}
use Rattle.classfile.proofs.SkippedParts.{skip_on, skip_stop, skip_end}
use Rattle.classfile.proofs.skipping.numbers.Goals as goal

pub returns-in_err-u2 : goal.returns-in_err-u2
unfolding numbers
returns-in_err-u2 c =
    let p = err_from_is_err_and c.from_residual.result c.from_residual.ensures.1 in
    rw (p.1, p.2) (skip_stop (number 2) c.args.count c.loop.counter c.loop.cursor.at c.loop.cursor.rest c.in_err-u2.field-0.0 _ c.loop-test.true c.loop.invariant c.in_err-u2.ensures.0)

pub loop-preserved : goal.loop-preserved
loop-preserved c = skip_on (number 2) c.args.count c.loop.counter c.loop.cursor.at c.loop.cursor.rest _ c.u2.new.self _ c.loop-test.true c.in_ok-u2.ensures c.loop.invariant

pub returns : goal.returns
unfolding numbers
returns c = skip_end (number 2) c.args.count c.loop.counter c.loop.cursor _ c.loop-test.false c.loop.invariant
