use Rattle.std.proofs.Common.{◌∙◌, Bool, sym, ap, subst}
use Rattle.method_frames.specs.NumberedFrames.{NumberedFrames}
use Rattle.verify.specs.declared.pass.handlers.Handlers.{Handlers}
use Rattle.verify.specs.private.pass.Following.{Follows}
use Rattle.verify.proofs.numbered.Settling.{kept_follows}
use Rattle.verify.proofs.pass.handlers.Handlers.keep.Goals as goal

abbrev with_flag : Handlers → Bool → Handlers
with_flag h f = record h { flag = f }

pub returns-clause-followed : goal.returns-clause-followed
returns-clause-followed g c = λ es k taken.
    let x = c.args.frames.now in
    let h = c.args.self.now in
    let kept = c.in_ok-keep_locals.ensures.ok in
    let flag = c.flag-self.ensures ∙ ap (λ (z : NumberedFrames). z.running.flag) kept in
    subst (λ z. Follows z es c.args.at (with_flag h c.flag-self.result)) (sym kept)
    (subst (λ f. Follows (record x { kept = x.running.locals }) es c.args.at (with_flag h f)) (sym flag) (kept_follows x es c.args.at h k taken))
