use Rattle.std.proofs.Common.{◌≡◌, true, List, Ok, Err, inr, subst}
use Rattle.classfile.specs.Methods.{JudgedClass}
use Rattle.classfile.specs.Values.{Class}
use Rattle.hierarchy.specs.Class.{ClassFact}
use Rattle.verify.specs.Beside.{AnswersBeside}
use Rattle.verify.specs.Files.{Read}
use Rattle.verify.specs.Explaining.{IsExplained}
use Rattle.verify.specs.Reports.{IsReport}
use Rattle.verify.specs.declared.report.Report.{Report}
use Rattle.verify.proofs.Others.{same_fault_beside}
use Rattle.answers.specs.Files.{file_view, read_view, reads_of}
use Rattle.answers.specs.Explanations.{explanations}
use Rattle.answers.specs.Verdicts.{report_status, explained, BesideSays}
use Rattle.answers.specs.declared.manner.Manner.TheVariants.{Explained}
use Rattle.answers.proofs.Tellings.{answered_more, with_files}
use Rattle.answers.proofs.beside.explain_verdicts.Goals as goal

abbrev reported : List ClassFact → JudgedClass → Report → Type 0
reported classes c report = IsReport classes c report.methods.items

pub returns-in-Ok : goal.returns-in-Ok
returns-in-Ok g c = λ beside all.
    let held = g.W.Write.contents in
    let profile = c.args.profile in
    let found = c.in-Ok.found in
    let given : Class → List Read = λ k. reads_of (beside k) in
    let told : AnswersBeside (IsExplained true) profile (read_view c.args.file) given (Ok found) =
    subst (λ r. AnswersBeside (IsExplained true) profile r given (Ok found)) c.as_read.ensures (c.in-Ok.ensures.answer given all) in
    let (files, go, (class, cs, formed, each, hierarchy, fine, is)) = with_files (IsExplained true) profile (read_view c.args.file) beside (Ok found) told in
    let rs = found.report.methods.items in
    let xs = found.frames.items in
    answered_more (λ t s. (t ≡ explanations (explained c.args.form class.constant_pool) class.methods rs xs) × (s ≡ report_status rs)) (BesideSays (Explained c.args.form) profile (file_view c.args.file) beside)
    (λ text status p. (files, go, inr (class, formed, inr (cs, each, inr (hierarchy, inr (fine, (rs, is.0, (xs, is.1, p.0), p.1)))))))
    (held c.args.out.now) (held c.explain.new.out) c.explain.result (c.explain.ensures class formed)

pub returns-in-Err : goal.returns-in-Err
returns-in-Err g c = λ beside all.
    let profile = c.args.profile in
    let fault = c.in-Err.fault in
    let given : Class → List Read = λ k. reads_of (beside k) in
    c.refuse.ensures profile beside
    (same_fault_beside (IsExplained true) reported profile (read_view c.args.file) given fault
    (subst (λ r. AnswersBeside (IsExplained true) profile r given (Err fault)) c.as_read.ensures (c.in-Err.ensures.answer given all)))
