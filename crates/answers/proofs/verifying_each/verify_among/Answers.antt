use Rattle.std.proofs.Common.{◌≡◌, ◌∙◌, map, inl, inr, ap, subst, sym}
use Rattle.verify.specs.Files.{read_of}
use Rattle.verify.specs.Each.{JudgesEach, JudgesNone}
use Rattle.verify.specs.declared.judgements.EachFault.TheVariants.{NoHierarchy}
use Rattle.answers.specs.Files.{files_view, reads_of}
use Rattle.answers.specs.Verdicts.{hierarchy_refusal}
use Rattle.answers.specs.Judgements.{lines_from, EachSays}
use Rattle.answers.proofs.Refused.{viewed}
use Rattle.answers.proofs.Tellings.{answered_more}
use Rattle.answers.proofs.verifying_each.verify_among.Goals as goal

pub returns-in-Ok-judge_each : goal.returns-in-Ok-judge_each
returns-in-Ok-judge_each g c =
    let held = g.W.Write.contents in
    let reads = reads_of (files_view c.args.classes) in
    let known = reads_of (files_view c.args.known) in
    let js = c.in-Ok-judge_each.judgements.items in
    let first : map read_of c.deref.result.now ≡ reads = ap (map read_of) c.deref.ensures.value ∙ c.in-Ok.ensures.found ∙ viewed c.args.classes.versions c.args.classes.reads.now in
    let second : map read_of c.deref-2.result.now ≡ known = ap (map read_of) c.deref-2.ensures.value ∙ c.in-Ok-file_reads.ensures.found ∙ viewed c.args.known.versions c.args.known.reads.now in
    let told : JudgesEach c.args.profile reads known js =
    subst (λ r. JudgesEach c.args.profile r known js) first (subst (λ k. JudgesEach c.args.profile (map read_of c.deref.result.now) k js) second c.in-Ok-judge_each.ensures) in
    let shown = c.deref-in-Ok-judge_each.result.now in
    answered_more (λ t s. (t ≡ lines_from c.args.form 1 shown) × (s ≡ c.status.result)) (EachSays c.args.form c.args.profile reads known)
    (λ text status p. inl (shown, subst (JudgesEach c.args.profile reads known) (sym c.deref-in-Ok-judge_each.ensures.value) told, p.0, p.1 ∙ c.status.ensures))
    (held c.args.out.now) (held c.tell.new.out) c.tell.result c.tell.ensures

pub returns : goal.returns
returns g c =
    let held = g.W.Write.contents in
    let reads = reads_of (files_view c.args.classes) in
    let known = reads_of (files_view c.args.known) in
    let fault = c.in-Err-NoHierarchy.fault in
    let first : map read_of c.deref.result.now ≡ reads = ap (map read_of) c.deref.ensures.value ∙ c.in-Ok.ensures.found ∙ viewed c.args.classes.versions c.args.classes.reads.now in
    let second : map read_of c.deref-2.result.now ≡ known = ap (map read_of) c.deref-2.ensures.value ∙ c.in-Ok-file_reads.ensures.found ∙ viewed c.args.known.versions c.args.known.reads.now in
    let raw : JudgesNone (map read_of c.deref.result.now) (map read_of c.deref-2.result.now) (NoHierarchy fault) =
    subst (JudgesNone (map read_of c.deref.result.now) (map read_of c.deref-2.result.now)) c.in-Err-NoHierarchy.field-0-is c.in-Err-NoHierarchy.ensures in
    let told : JudgesNone reads known (NoHierarchy fault) =
    subst (λ r. JudgesNone r known (NoHierarchy fault)) first (subst (λ k. JudgesNone (map read_of c.deref.result.now) k (NoHierarchy fault)) second raw) in
    answered_more (λ t s. (t ≡ hierarchy_refusal c.args.form fault) × (s ≡ 1)) (EachSays c.args.form c.args.profile reads known)
    (λ text status p. inr (fault, told, p.0, p.1))
    (held c.args.out.now) (held c.tell-in-Err-NoHierarchy.new.out) c.tell-in-Err-NoHierarchy.result c.tell-in-Err-NoHierarchy.ensures
