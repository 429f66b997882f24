use Rattle.std.proofs.lemmas.Result.{err_from_is_err_and}
use Rattle.classfile.proofs.Outlines.{repeated_start, repeated_on, repeated_stop, repeated_end}
use Rattle.classfile.proofs.outline.items.Goals as goal

pub returns-in_err-read : goal.returns-in_err-read
returns-in_err-read g c =
    let p = err_from_is_err_and c.from_residual.result c.from_residual.ensures.1 in
    rw (p.1, p.2) (repeated_stop g.T.Outlined.outline (λ x. x) c.args.count c.loop.counter c.loop.reading.bytes _ _ _ _ _ c.in_err-read.field-0.0 c.loop-test.true c.loop.invariant c.in_err-read.ensures)

pub loop-preserved : goal.loop-preserved
loop-preserved g c = repeated_on g.T.Outlined.outline c.args.count c.loop.counter _ c.loop.reading.bytes _ _ _ _ _ c.loop-test.true c.loop.invariant c.in_ok-read.ensures

pub returns : goal.returns
returns g c = repeated_end g.T.Outlined.outline c.args.count c.loop.counter c.loop.reading.bytes _ _ _ c.loop-test.false c.loop.invariant

pub loop-init : goal.loop-init
loop-init g c = repeated_start g.T.Outlined.outline _ _ _
