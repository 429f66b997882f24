use Rattle.std.proofs.Common.{◌≡◌, List, inl, inr, Err, subst}
use Rattle.verify.specs.declared.known_classes.AmongFault.TheVariants.{Refused, NoHierarchy, Final}
use Rattle.classfile.specs.Methods.{JudgedClass}
use Rattle.classfile.specs.Values.{Class}
use Rattle.hierarchy.specs.Class.{ClassFact}
use Rattle.verify.specs.Beside.{AnswersBeside}
use Rattle.verify.specs.Files.{Read}
use Rattle.verify.specs.Reports.{IsReport}
use Rattle.verify.specs.declared.report.Report.{Report}
use Rattle.answers.specs.Files.{file_view, read_view, reads_of, refusal_status}
use Rattle.answers.specs.Verdicts.{class_object, class_refusal, hierarchy_told, final_told, IsTold, BesideSays}
use Rattle.answers.proofs.Tellings.{answered_more, with_files}
use Rattle.answers.proofs.beside.refuse.Goals as goal

abbrev reported : List ClassFact → JudgedClass → Report → Type 0
reported classes c report = IsReport classes c report.methods.items

pub returns-in-Refused : goal.returns-in-Refused
returns-in-Refused g c = λ profile beside told.
    let held = g.W.Write.contents in
    let read = read_view c.args.file in
    let fault = c.in-Refused.fault in
    let given : Class → List Read = λ k. reads_of (beside k) in
    let here : AnswersBeside reported profile read given (Err (Refused fault)) = subst (λ e. AnswersBeside reported profile read given (Err e)) c.in-Refused.is told in
    let (files, go, why) = with_files reported profile read beside (Err (Refused fault)) here in
    answered_more (λ t s. IsTold c.args.manner (file_view c.args.file) fault (λ form. class_refusal form fault) (class_object fault) t × (s ≡ refusal_status fault)) (BesideSays c.args.manner profile (file_view c.args.file) beside)
    (λ text status p. (files, go, inl (fault, why, p.0, p.1)))
    (held c.args.out.now) (held c.refuse_class.new.out) c.refuse_class.result c.refuse_class.ensures

pub returns-in-NoHierarchy : goal.returns-in-NoHierarchy
returns-in-NoHierarchy g c = λ profile beside told.
    let held = g.W.Write.contents in
    let read = read_view c.args.file in
    let fault = c.in-NoHierarchy.fault in
    let given : Class → List Read = λ k. reads_of (beside k) in
    let here : AnswersBeside reported profile read given (Err (NoHierarchy fault)) = subst (λ e. AnswersBeside reported profile read given (Err e)) c.in-NoHierarchy.is told in
    let (files, go, why) = with_files reported profile read beside (Err (NoHierarchy fault)) here in
    let (class, cs, formed, all, other, is) = why in
    answered_more (λ t s. (t ≡ hierarchy_told c.args.manner fault) × (s ≡ 1)) (BesideSays c.args.manner profile (file_view c.args.file) beside)
    (λ text status p. (files, go, inr (class, formed, inr (cs, all, inl (fault, other, is, p.0, p.1)))))
    (held c.args.out.now) (held c.tell.new.out) c.tell.result c.tell.ensures

pub returns-in-Final : goal.returns-in-Final
returns-in-Final g c = λ profile beside told.
    let held = g.W.Write.contents in
    let read = read_view c.args.file in
    let rule = c.in-Final.rule in
    let given : Class → List Read = λ k. reads_of (beside k) in
    let here : AnswersBeside reported profile read given (Err (Final rule)) = subst (λ e. AnswersBeside reported profile read given (Err e)) c.in-Final.is told in
    let (files, go, why) = with_files reported profile read beside (Err (Final rule)) here in
    let (class, cs, formed, all, hierarchy, final) = why in
    answered_more (λ t s. (t ≡ final_told c.args.manner class rule) × (s ≡ 1)) (BesideSays c.args.manner profile (file_view c.args.file) beside)
    (λ text status p. (files, go, inr (class, formed, inr (cs, all, inr (hierarchy, inl (rule, final, p.0, p.1))))))
    (held c.args.out.now) (held c.refuse_final.new.out) c.refuse_final.result (c.refuse_final.ensures class formed)
