use Rattle.std.proofs.Common.{◌≡◌, ◌∙◌, ◌∷◌, false, List, Ok, Err, map, inr, sym, subst}
use Rattle.std.specs.List.{flat_map}
use Rattle.classfile.specs.CodeMethods.{judged}
use Rattle.classfile.specs.Methods.{JudgedClass}
use Rattle.classfile.specs.Values.{Class}
use Rattle.hierarchy.specs.Class.{ClassFact}
use Rattle.hierarchy.specs.ClassSummary.{summary_of}
use Rattle.verify.specs.Beside.{AnswersBeside}
use Rattle.verify.specs.Files.{Read}
use Rattle.verify.specs.Explaining.{IsExplained}
use Rattle.verify.specs.Reports.{IsReport}
use Rattle.verify.specs.declared.report.Report.{Report}
use Rattle.verify.proofs.Others.{same_fault_beside}
use Rattle.answers.specs.Files.{file_view, read_view, reads_of}
use Rattle.answers.specs.Verdicts.{verdict_line, BesideSays}
use Rattle.answers.specs.declared.manner.Manner.TheVariants.{Told}
use Rattle.answers.proofs.Tellings.{answered_more, with_files}
use Rattle.answers.proofs.beside.tell_verdicts.Goals as goal

abbrev reported : List ClassFact → JudgedClass → Report → Type 0
reported classes c report = IsReport classes c report.methods.items

pub returns-in-Ok : goal.returns-in-Ok
returns-in-Ok g c = λ beside all.
    let held = g.W.Write.contents in
    let profile = c.args.profile in
    let found = c.in-Ok.found in
    let given : Class → List Read = λ k. reads_of (beside k) in
    let told : AnswersBeside (IsExplained false) profile (read_view c.args.file) given (Ok found) =
    subst (λ r. AnswersBeside (IsExplained false) profile r given (Ok found)) c.as_read.ensures (c.in-Ok.ensures.answer given all) in
    let (files, go, (class, cs, formed, each, hierarchy, fine, is)) = with_files (IsExplained false) profile (read_view c.args.file) beside (Ok found) told in
    let rs = c.deref.result.now in
    let here : IsReport (map summary_of (class ∷ cs)) (judged profile class) rs = subst (IsReport (map summary_of (class ∷ cs)) (judged profile class)) (sym c.deref.ensures.value) is.0 in
    answered_more (λ t s. (t ≡ flat_map (verdict_line c.args.form) rs) × (s ≡ c.status.result)) (BesideSays (Told c.args.form) profile (file_view c.args.file) beside)
    (λ text status p. (files, go, inr (class, formed, inr (cs, each, inr (hierarchy, inr (fine, (rs, here, p.0, p.1 ∙ c.status.ensures)))))))
    (held c.args.out.now) (held c.tell.new.out) c.tell.result c.tell.ensures

pub returns-in-Err : goal.returns-in-Err
returns-in-Err g c = λ beside all.
    let profile = c.args.profile in
    let fault = c.in-Err.fault in
    let given : Class → List Read = λ k. reads_of (beside k) in
    c.refuse.ensures profile beside
    (same_fault_beside (IsExplained false) reported profile (read_view c.args.file) given fault
    (subst (λ r. AnswersBeside (IsExplained false) profile r given (Err fault)) c.as_read.ensures (c.in-Err.ensures.answer given all)))
