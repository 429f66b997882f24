use Rattle.std.proofs.Common.{◌≡◌, ◌∙◌, map, inr, ap, subst}
use Rattle.classfile.specs.Versions.{judged_versions}
use Rattle.verify.specs.Files.{read_of}
use Rattle.verify.specs.Together.{ReportsTogether, NotTogether}
use Rattle.answers.specs.Files.{input_read}
use Rattle.answers.specs.Plays.{play_verified, PlaySays}
use Rattle.answers.proofs.Tellings.{answered_more}
use Rattle.answers.proofs.playing.play.Goals as goal

pub returns-in-Ok-verify_together_under : goal.returns-in-Ok-verify_together_under
returns-in-Ok-verify_together_under g c =
    let held = g.W.Write.contents in
    let reads = map (input_read (judged_versions c.args.profile)) c.args.reads.now in
    let rs = c.in-Ok-verify_together_under.field-0.items in
    let same : map read_of c.deref.result.now ≡ reads = ap (map read_of) c.deref.ensures.value ∙ c.in-Ok.ensures.found ∙ ap (λ v. map (input_read v) c.args.reads.now) c.judged_versions-versions.ensures in
    let (cs, all, (hierarchy, played)) = subst (λ k. ReportsTogether c.args.profile k rs) same c.in-Ok-verify_together_under.ensures.exactly in
    answered_more (λ t s. (t ≡ play_verified c.args.form) × (s ≡ 0)) (PlaySays c.args.form c.args.profile reads)
    (λ text status p. inr (cs, all, inr (hierarchy, inr (rs, played, p.0, p.1))))
    (held c.args.out.now) (held c.tell.new.out) c.tell.result c.tell.ensures

pub returns : goal.returns
returns g c =
    let reads = map (input_read (judged_versions c.args.profile)) c.args.reads.now in
    let same : map read_of c.deref.result.now ≡ reads = ap (map read_of) c.deref.ensures.value ∙ c.in-Ok.ensures.found ∙ ap (λ v. map (input_read v) c.args.reads.now) c.judged_versions-versions.ensures in
    c.refuse.ensures c.args.profile reads (subst (λ k. NotTogether c.args.profile k c.in-Err-verify_together_under.fault) same c.in-Err-verify_together_under.ensures.exactly)
