use Rattle.std.proofs.Common.{refl, sym, subst}
use Rattle.method_frames.specs.NumberedFrames.{NumberedFrames}
use Rattle.method_frames.specs.MapFrames.{frames_by}
use Rattle.numbered_rules.specs.RunningFrame.{held}
use Rattle.rules.specs.Outcomes.{Judges}
use Rattle.verify.specs.Verdict.{handler_conditions}
use Rattle.verify.specs.private.pass.Following.{AreHandlers}
use Rattle.verify.proofs.pass.handlers.Handlers.catch.Goals as goal

pub returns-then-are_idle-clause-judged : goal.returns-then-are_idle-clause-judged
returns-then-are_idle-clause-judged g c = λ es k. record { outcome = c.if-are_idle.ensures refl es k c.requires.ahead }

pub check_handlers-requires : goal.check_handlers-requires
check_handlers-requires g c =
    let x = c.settle.new.frames in
    let es = c.requires.follows.0 in
    (es, subst (AreHandlers x.types x.declared es) (sym c.deref.ensures.value) (c.in_ok-settle.ensures.followed es c.requires.follows.1).entries)

pub returns-clause-judged : goal.returns-clause-judged
returns-clause-judged g c = λ es k.
    let x = c.settle.new.frames in
    subst (λ (z : NumberedFrames). Judges (handler_conditions z.types.classes (frames_by z.types z.declared) c.args.at (held z) es) c.check_handlers.result) c.in_ok-settle.ensures.rest
    (c.check_handlers.ensures.judged es (subst (AreHandlers x.types x.declared es) (sym c.deref.ensures.value) (c.in_ok-settle.ensures.followed es k).entries))
