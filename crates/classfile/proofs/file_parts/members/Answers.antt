use Rattle.std.proofs.lemmas.Result.{err_from_is_err_and}
use Rattle.classfile.specs.private.Searching.{kind_place}
use Rattle.classfile.proofs.SearchedParts.{members_on, members_stop, members_end}
use Rattle.classfile.proofs.file_parts.members.Goals as goal

pub returns-in_err-member : goal.returns-in_err-member
returns-in_err-member c =
    let p = err_from_is_err_and c.from_residual.result c.from_residual.ensures.1 in
    rw (p.1, p.2) (members_stop c.args.at (kind_place c.args.kind) c.args.count c.loop-n.n c.loop-n.cursor c.in_err-member.field-0.0 _ c.loop-n-test.true
    (rw (← c.kind_place.ensures) c.in_err-member.ensures) c.loop-n.invariant)

pub loop-n-preserved : goal.loop-n-preserved
loop-n-preserved c =
    members_on c.args.at (kind_place c.args.kind) c.args.count c.loop-n.n c.loop-n.cursor c.member.new.cursor _ c.loop-n-test.true
    (rw (← c.kind_place.ensures) c.in_ok-member.ensures) c.loop-n.invariant

pub returns : goal.returns
returns c = members_end c.args.at (kind_place c.args.kind) c.args.count c.loop-n.n c.loop-n.cursor _ c.loop-n-test.false c.loop-n.invariant
