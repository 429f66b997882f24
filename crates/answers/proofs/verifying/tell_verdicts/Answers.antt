use Rattle.std.proofs.Common.{◌≡◌, ◌∙◌, ◌∷◌, Ok, Err, length, map, inr, ap, sym, subst}
use Rattle.std.proofs.lemmas.List.{length-map}
use Rattle.std.specs.List.{flat_map}
use Rattle.classfile.specs.CodeMethods.{judged}
use Rattle.hierarchy.specs.ClassSummary.{summary_of}
use Rattle.verify.specs.Files.{read_of}
use Rattle.verify.specs.Among.{ReportsAmong}
use Rattle.verify.specs.Reports.{IsReport}
use Rattle.answers.specs.Files.{file_view, files_view, input_read, read_view, reads_of, CountsKnown}
use Rattle.answers.specs.Verdicts.{verdict_line, VerifySays}
use Rattle.answers.specs.declared.manner.Manner.TheVariants.{Told}
use Rattle.answers.proofs.Refused.{counted, viewed}
use Rattle.answers.proofs.Tellings.{answered_more}
use Rattle.answers.proofs.verifying.tell_verdicts.Goals as goal

pub returns-in-Ok-verify_among_under : goal.returns-in-Ok-verify_among_under
returns-in-Ok-verify_among_under g c =
    let held = g.W.Write.contents in
    let read = read_view c.args.file in
    let known = reads_of (files_view c.args.known) in
    let report = c.in-Ok-verify_among_under.found in
    let same : map read_of c.deref.result.now ≡ known = ap (map read_of) c.deref.ensures.value ∙ c.in-Ok.ensures.found ∙ viewed c.args.known.versions c.args.known.reads.now in
    let told : ReportsAmong c.args.profile read known (Ok report) =
    subst (λ r. ReportsAmong c.args.profile r known (Ok report)) c.as_read.ensures
    (subst (λ k. ReportsAmong c.args.profile (read_of c.as_read.result) k (Ok report)) same c.in-Ok-verify_among_under.ensures) in
    let (class, cs, formed, all, hierarchy, fine, is) = told in
    let rs = c.deref-in-Ok-verify_among_under.result.now in
    let here : IsReport (map summary_of (class ∷ cs)) (judged c.args.profile class) rs = subst (IsReport (map summary_of (class ∷ cs)) (judged c.args.profile class)) (sym c.deref-in-Ok-verify_among_under.ensures.value) is in
    let manner = Told c.args.form in
    answered_more (λ t s. (t ≡ flat_map (verdict_line c.args.form) rs) × (s ≡ c.status.result)) (VerifySays manner c.args.profile (file_view c.args.file) (files_view c.args.known))
    (λ text status p. inr (class, formed, inr (cs, all, inr (hierarchy, inr (fine, (rs, here, p.0, p.1 ∙ c.status.ensures))))))
    (held c.args.out.now) (held c.tell.new.out) c.tell.result c.tell.ensures

pub refuse-requires : goal.refuse-requires
refuse-requires g c =
    let read = read_view c.args.file in
    let known = reads_of (files_view c.args.known) in
    let fault = c.in-Err-verify_among_under.fault in
    let same : map read_of c.deref.result.now ≡ known = ap (map read_of) c.deref.ensures.value ∙ c.in-Ok.ensures.found ∙ viewed c.args.known.versions c.args.known.reads.now in
    let told : ReportsAmong c.args.profile read known (Err fault) =
    subst (λ r. ReportsAmong c.args.profile r known (Err fault)) c.as_read.ensures
    (subst (λ k. ReportsAmong c.args.profile (read_of c.as_read.result) k (Err fault)) same c.in-Err-verify_among_under.ensures) in
    subst (CountsKnown fault) (ap length (sym (viewed c.args.known.versions c.args.known.reads.now)) ∙ length-map c.args.known.reads.now (input_read c.args.known.versions)) (counted c.args.profile read known fault told)

pub returns : goal.returns
returns g c =
    let read = read_view c.args.file in
    let known = reads_of (files_view c.args.known) in
    let fault = c.in-Err-verify_among_under.fault in
    let same : map read_of c.deref.result.now ≡ known = ap (map read_of) c.deref.ensures.value ∙ c.in-Ok.ensures.found ∙ viewed c.args.known.versions c.args.known.reads.now in
    c.refuse.ensures c.args.profile
    (subst (λ r. ReportsAmong c.args.profile r known (Err fault)) c.as_read.ensures
    (subst (λ k. ReportsAmong c.args.profile (read_of c.as_read.result) k (Err fault)) same c.in-Err-verify_among_under.ensures))
