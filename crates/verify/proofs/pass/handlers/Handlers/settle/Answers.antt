use Rattle.std.proofs.Common.{None, sym, subst, ◌≡◌}
use Rattle.std.specs.Prelude.{IsTrue, IfOk, OnOk}
use Rattle.frames.specs.Conditions.{least}
use Rattle.method_frames.specs.NumberedFrames.{NumberedFrames}
use Rattle.method_frames.specs.MapFrames.{frames_by}
use Rattle.numbered_rules.specs.RunningFrame.{held}
use Rattle.verify.specs.Verdict.{handler_conditions}
use Rattle.verify.specs.private.pass.Following.{AreAllTaken, Follows}
use Rattle.verify.proofs.pass.handlers.Handlers.settle.Goals as goal

pub compare-requires-clause-follows : goal.compare-requires-clause-follows
compare-requires-clause-follows g c =
    let es = c.requires.0 in
    let k = c.requires.1 in
    (es, c.in_ok-keep.ensures.followed es (subst (λ (z : NumberedFrames). Follows z es c.args.at c.are_taken.new.self) (sym c.in_ok-are_taken.ensures.same) (c.in_ok-are_taken.ensures.followed es k)) (subst (λ (z : NumberedFrames). AreAllTaken z c.args.at c.are_taken.new.self) (sym c.in_ok-are_taken.ensures.same) (c.in_ok-are_taken.ensures.taken es k c.if-not-branch.false)))

pub returns-clause-followed : goal.returns-clause-followed
returns-clause-followed g c = λ es k.
    subst (λ z. OnOk c.compare.result (Follows z es c.args.at c.compare.new.self)) (sym c.compare.ensures.same)
    (c.compare.ensures.followed es (c.in_ok-keep.ensures.followed es (subst (λ (z : NumberedFrames). Follows z es c.args.at c.are_taken.new.self) (sym c.in_ok-are_taken.ensures.same) (c.in_ok-are_taken.ensures.followed es k)) (subst (λ (z : NumberedFrames). AreAllTaken z c.args.at c.are_taken.new.self) (sym c.in_ok-are_taken.ensures.same) (c.in_ok-are_taken.ensures.taken es k c.if-not-branch.false))))

pub returns-clause-settled : goal.returns-clause-settled
returns-clause-settled g c = λ es k ahead.
    subst (λ (z : NumberedFrames). IfOk c.compare.result (λ all. IsTrue all → least (handler_conditions z.types.classes (frames_by z.types z.declared) c.args.at (held z) es) ≡ None)) c.in_ok-are_taken.ensures.same
    (subst (λ (z : NumberedFrames). IfOk c.compare.result (λ all. IsTrue all → least (handler_conditions z.types.classes (frames_by z.types z.declared) c.args.at (held z) es) ≡ None)) c.in_ok-keep.ensures.rest
    (c.compare.ensures.compared es (c.in_ok-keep.ensures.followed es (subst (λ (z : NumberedFrames). Follows z es c.args.at c.are_taken.new.self) (sym c.in_ok-are_taken.ensures.same) (c.in_ok-are_taken.ensures.followed es k)) (subst (λ (z : NumberedFrames). AreAllTaken z c.args.at c.are_taken.new.self) (sym c.in_ok-are_taken.ensures.same) (c.in_ok-are_taken.ensures.taken es k c.if-not-branch.false)))
    (c.in_ok-keep.ensures.ahead (c.in_ok-are_taken.ensures.ahead ahead))))
