use Rattle.std.proofs.Common.{◌≡◌, ◌∙◌, ◌++◌, ◌∷◌, [], List, sym, subst}
use Rattle.verify.specs.Each.{AreJudged, IsJudged}
use Rattle.verify.specs.private.OpeningSteps.{AreOpened, IsOpened}
use Rattle.verify.specs.Files.{Read}
use Rattle.classfile.specs.declared.profile.Profile.{Profile}
use Rattle.hierarchy.specs.Class.{ClassFact}
use Rattle.verify.proofs.OneMore.{one_more_judged}
use Rattle.verify.proofs.Openings.{taken_last}
use Rattle.verify.proofs.judgements.judge_all.Goals as goal

none_judged : (p : Profile) (h : List ClassFact) (reads : List Read) → AreOpened reads [] → AreJudged p h reads []
none_judged p h [] none = tt
none_judged p h (read ∷ reads) none = absurd none

pub loop-file-init : goal.loop-file-init
loop-file-init g c = (c.new-numbers.ensures.classes, λ reads none. subst (AreJudged c.args.profile (g.C.Classes.content c.args.classes.now) reads) (sym c.in_ok-judgements.ensures.items) (none_judged c.args.profile (g.C.Classes.content c.args.classes.now) reads none))

pub loop-file-preserved : goal.loop-file-preserved
loop-file-preserved g c =
    let h = g.C.Classes.content c.args.classes.now in
    let p = c.args.profile in
    let old = c.loop-file.judgements.items in
    let j = c.in_ok-judge.field-0 in
    let same : c.loop-file.numbers.classes ≡ h = c.loop-file.invariant.0 in (
      c.judge.ensures.same ∙ same,
      λ reads all.
          let l = taken_last IsOpened reads c.args.files.now c.loop-file.file-index c.file-item.result c.loop-file-test.true c.file-item.is all in
          subst (AreJudged p h reads) (sym c.in_ok-push.ensures.items)
          (subst (λ rs. AreJudged p h rs (old ++ j ∷ [])) (sym l.same)
          (one_more_judged p h l.front l.last old j (c.loop-file.invariant.1 l.front l.before) (subst (λ k. IsJudged p k l.last j) same (c.in_ok-judge.ensures.judged l.last l.here)))),
    )
