use Rattle.std.proofs.Common.{sym, subst}
use Rattle.std.specs.Prelude.{IfOk, IsTrue, OnOk}
use Rattle.method_frames.specs.NumberedFrames.{NumberedFrames}
use Rattle.verify.specs.private.pass.Following.{AreAllTaken, Follows}
use Rattle.verify.proofs.numbered.Settling.{follows_dropped}
use Rattle.verify.proofs.pass.handlers.Handlers.are_taken.Goals as goal

pub take_changes-requires : goal.take_changes-requires
take_changes-requires g c = (c.requires.0, c.args.at, c.requires.1)

pub returns-then-branch-clause-followed : goal.returns-then-branch-clause-followed
returns-then-branch-clause-followed g c = λ es k. c.in_ok-take_changes.ensures.followed es c.args.at k

pub returns-then-branch-clause-ahead : goal.returns-then-branch-clause-ahead
returns-then-branch-clause-ahead g c = λ ahead. c.take_changes.ensures.ahead c.args.at ahead

pub returns-in_err-take_changes-clause-ahead : goal.returns-in_err-take_changes-clause-ahead
returns-in_err-take_changes-clause-ahead g c = λ ahead. c.take_changes.ensures.ahead c.args.at ahead

pub returns-in_err-drop_ended-clause-ahead : goal.returns-in_err-drop_ended-clause-ahead
returns-in_err-drop_ended-clause-ahead g c = λ ahead. c.take_changes.ensures.ahead c.args.at ahead

pub returns-then-branch-clause-taken : goal.returns-then-branch-clause-taken
returns-then-branch-clause-taken g c = λ es k t. c.in_ok-take_changes.ensures.taken es c.args.at k c.if-branch.true

pub drop_ended-requires : goal.drop_ended-requires
drop_ended-requires g c =
    let x = c.args.frames.now in
    (x.types, x.declared, (c.in_ok-take_changes.ensures.followed c.requires.0 c.args.at c.requires.1).representatives)

pub take_changes-requires-2 : goal.take_changes-requires-2
take_changes-requires-2 g c =
    let x = c.args.frames.now in
    let es = c.requires.0 in
    let at = c.args.at in
    let first = c.in_ok-take_changes.ensures.followed es at c.requires.1 in
    let sorted = c.in_ok-drop_ended.ensures.sorted x.types x.declared first.representatives in (
      es,
      at,
      subst (λ (z : NumberedFrames). Follows z es at (record c.take_changes.new.self { representatives = c.drop_ended.new.self })) (sym c.take_changes.ensures.same)
          (follows_dropped x es at c.take_changes.new.self c.drop_ended.new.self sorted.are sorted.others sorted.fewer first),
    )

pub returns-clause-followed : goal.returns-clause-followed
returns-clause-followed g c = λ es k.
    let x = c.args.frames.now in
    let at = c.args.at in
    let first = c.in_ok-take_changes.ensures.followed es at k in
    let sorted = c.in_ok-drop_ended.ensures.sorted x.types x.declared first.representatives in
    let now = subst (λ (z : NumberedFrames). Follows z es at (record c.take_changes.new.self { representatives = c.drop_ended.new.self })) (sym c.take_changes.ensures.same)
    (follows_dropped x es at c.take_changes.new.self c.drop_ended.new.self sorted.are sorted.others sorted.fewer first) in
    subst (λ (z : NumberedFrames). OnOk c.take_changes-2.result (Follows z es at c.take_changes-2.new.self)) c.take_changes.ensures.same (c.take_changes-2.ensures.followed es at now)

pub returns-clause-ahead : goal.returns-clause-ahead
returns-clause-ahead g c = λ ahead. c.take_changes-2.ensures.ahead c.args.at (c.take_changes.ensures.ahead c.args.at ahead)

pub returns-clause-taken : goal.returns-clause-taken
returns-clause-taken g c = λ es k.
    let x = c.args.frames.now in
    let at = c.args.at in
    let first = c.in_ok-take_changes.ensures.followed es at k in
    let sorted = c.in_ok-drop_ended.ensures.sorted x.types x.declared first.representatives in
    let now = subst (λ (z : NumberedFrames). Follows z es at (record c.take_changes.new.self { representatives = c.drop_ended.new.self })) (sym c.take_changes.ensures.same)
    (follows_dropped x es at c.take_changes.new.self c.drop_ended.new.self sorted.are sorted.others sorted.fewer first) in
    subst (λ (z : NumberedFrames). IfOk c.take_changes-2.result (λ taken. IsTrue taken → AreAllTaken z at c.take_changes-2.new.self)) c.take_changes.ensures.same (c.take_changes-2.ensures.taken es at now)
