use Rattle.std.proofs.lemmas.Result.{err_from_is_err_and}
use Rattle.classfile.proofs.SearchedParts.{constants_on, constants_stop, constants_end}
use Rattle.classfile.proofs.file_parts.constants.Goals as goal

pub returns-in_err-second : goal.returns-in_err-second
returns-in_err-second c =
    let p = err_from_is_err_and c.from_residual.result c.from_residual.ensures.1 in
    rw (p.1, p.2) (constants_stop c.args.at c.args.count c.loop-i.i c.loop-i.second c.loop-i.cursor c.in_err-second.field-0.0 _ c.loop-i-test.true
    c.in_err-second.ensures c.loop-i.invariant)

pub loop-i-preserved : goal.loop-i-preserved
loop-i-preserved c =
    constants_on c.args.at c.args.count c.loop-i.i c.loop-i.second c.in_ok-second.second c.loop-i.cursor c.entry.new.cursor _ c.loop-i-test.true
    c.in_ok-second.ensures c.loop-i.invariant

pub returns : goal.returns
returns c = constants_end c.args.at c.args.count c.loop-i.i c.loop-i.second c.loop-i.cursor _ c.loop-i-test.false c.loop-i.invariant
