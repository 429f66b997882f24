use Rattle.std.proofs.Common.{◌≡◌, ◌∙◌, true, List, Ok, Err, length, map, inr, ap, sym, subst}
use Rattle.std.proofs.lemmas.List.{length-map}
use Rattle.verify.specs.Files.{read_of}
use Rattle.verify.specs.Among.{ExplainsAmong}
use Rattle.verify.specs.Explaining.{IsExplained}
use Rattle.verify.proofs.Formed.{same_fault}
use Rattle.verify.specs.declared.report.Report.{Report}
use Rattle.classfile.specs.Methods.{JudgedClass}
use Rattle.hierarchy.specs.Class.{ClassFact}
use Rattle.verify.specs.Reports.{IsReport}
use Rattle.answers.specs.Files.{file_view, files_view, input_read, read_view, reads_of, CountsKnown}
use Rattle.answers.specs.Verdicts.{report_status, explained, VerifySays}
use Rattle.answers.specs.Explanations.{explanations}
use Rattle.answers.specs.declared.manner.Manner.TheVariants.{Explained}
use Rattle.answers.proofs.Refused.{counted, viewed}
use Rattle.answers.proofs.Tellings.{answered_more}
use Rattle.answers.proofs.verifying.explain_verdicts.Goals as goal

pub returns-in-Ok-explain_among_under : goal.returns-in-Ok-explain_among_under
returns-in-Ok-explain_among_under g c =
    let held = g.W.Write.contents in
    let read = read_view c.args.file in
    let known = reads_of (files_view c.args.known) in
    let found = c.in-Ok-explain_among_under.found in
    let same : map read_of c.deref.result.now ≡ known = ap (map read_of) c.deref.ensures.value ∙ c.in-Ok.ensures.found ∙ viewed c.args.known.versions c.args.known.reads.now in
    let told : ExplainsAmong c.args.profile read known (Ok found) =
    subst (λ r. ExplainsAmong c.args.profile r known (Ok found)) c.as_read.ensures
    (subst (λ k. ExplainsAmong c.args.profile (read_of c.as_read.result) k (Ok found)) same c.in-Ok-explain_among_under.ensures) in
    let (class, cs, formed, all, hierarchy, fine, is) = told in
    let rs = found.report.methods.items in
    let xs = found.frames.items in
    answered_more (λ t s. (t ≡ explanations (explained c.args.form class.constant_pool) class.methods rs xs) × (s ≡ report_status rs)) (VerifySays (Explained c.args.form) c.args.profile (file_view c.args.file) (files_view c.args.known))
    (λ text status p. inr (class, formed, inr (cs, all, inr (hierarchy, inr (fine, (rs, is.0, (xs, is.1, p.0), p.1))))))
    (held c.args.out.now) (held c.explain.new.out) c.explain.result (c.explain.ensures class formed)

abbrev reported : List ClassFact → JudgedClass → Report → Type 0
reported classes c report = IsReport classes c report.methods.items

pub refuse-requires : goal.refuse-requires
refuse-requires g c =
    let read = read_view c.args.file in
    let known = reads_of (files_view c.args.known) in
    let fault = c.in-Err-explain_among_under.fault in
    let same : map read_of c.deref.result.now ≡ known = ap (map read_of) c.deref.ensures.value ∙ c.in-Ok.ensures.found ∙ viewed c.args.known.versions c.args.known.reads.now in
    let told : ExplainsAmong c.args.profile read known (Err fault) =
    subst (λ r. ExplainsAmong c.args.profile r known (Err fault)) c.as_read.ensures
    (subst (λ k. ExplainsAmong c.args.profile (read_of c.as_read.result) k (Err fault)) same c.in-Err-explain_among_under.ensures) in
    subst (CountsKnown fault) (ap length (sym (viewed c.args.known.versions c.args.known.reads.now)) ∙ length-map c.args.known.reads.now (input_read c.args.known.versions))
    (counted c.args.profile read known fault (same_fault (IsExplained true) reported c.args.profile read known fault told))

pub returns : goal.returns
returns g c =
    let read = read_view c.args.file in
    let known = reads_of (files_view c.args.known) in
    let fault = c.in-Err-explain_among_under.fault in
    let same : map read_of c.deref.result.now ≡ known = ap (map read_of) c.deref.ensures.value ∙ c.in-Ok.ensures.found ∙ viewed c.args.known.versions c.args.known.reads.now in
    c.refuse.ensures c.args.profile
    (same_fault (IsExplained true) reported c.args.profile read known fault
    (subst (λ r. ExplainsAmong c.args.profile r known (Err fault)) c.as_read.ensures
    (subst (λ k. ExplainsAmong c.args.profile (read_of c.as_read.result) k (Err fault)) same c.in-Err-explain_among_under.ensures)))
