use Rattle.std.proofs.lemmas.Result.{err_from_is_err_and}
use Rattle.classfile.proofs.Outlines.{constants_start, constants_on, constants_stop, constants_end}
use Rattle.classfile.proofs.outline.constants.Goals as goal

pub returns-in_err-second : goal.returns-in_err-second
returns-in_err-second g c =
    let p = err_from_is_err_and c.from_residual.result c.from_residual.ensures.1 in
    rw (p.1, p.2) (constants_stop c.args.count c.loop-i.i c.loop-i.second c.loop-i.reading.bytes _ _ _ _ _ c.in_err-second.field-0.0 c.loop-i-test.true c.loop-i.invariant c.in_err-second.ensures)

pub loop-i-preserved : goal.loop-i-preserved
loop-i-preserved g c = constants_on c.args.count c.loop-i.i c.loop-i.second _ c.loop-i.reading.bytes _ _ _ _ _ c.loop-i-test.true c.loop-i.invariant c.in_ok-second.ensures

pub returns : goal.returns
returns g c = constants_end c.args.count c.loop-i.i c.loop-i.second c.loop-i.reading.bytes _ _ _ c.loop-i-test.false c.loop-i.invariant

pub loop-i-init : goal.loop-i-init
loop-i-init g c = constants_start _ _ _
