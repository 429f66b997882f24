use Rattle.std.proofs.Common.{[], ap, sym, ◌∙◌, subst}
use Rattle.classfile.specs.CodeMethods.{judged}
use Rattle.classfile.specs.Methods.{JudgedClass}
use Rattle.classfile.specs.Views.{class_view}
use Rattle.hierarchy.specs.ClassSummary.{summary_of}
use Rattle.verify.specs.Beside.{HaveSummaries, standing_beside}
use Rattle.verify.specs.Explaining.{IsExplained}
use Rattle.verify.specs.Files.{read_of}
use Rattle.verify.specs.private.AmongSteps.{ExplainsFormed}
use Rattle.verify.proofs.Formed.{decoded_formed, refused_by, among_formed}
use Rattle.verify.proofs.Others.{beside_refused, beside_formed, none_known}
use Rattle.verify.proofs.known_summaries.explain_beside.Goals as goal

pub returns-in-Err-clause-answer : goal.returns-in-Err-clause-answer
returns-in-Err-clause-answer g c = λ beside all.
    let read = read_of c.args.class in
    beside_refused (IsExplained c.args.framed) c.args.profile read beside c.refused.result (λ reads. c.refused.ensures c.args.framed c.args.profile read reads c.in-Err.ensures)

pub returns-in-Err-clause-none : goal.returns-in-Err-clause-none
returns-in-Err-clause-none g c =
    none_known (IsExplained c.args.framed) c.args.profile (read_of c.args.class) c.refused.result
    (c.refused.ensures c.args.framed c.args.profile (read_of c.args.class) [] c.in-Err.ensures)

pub returns-in-Ok-formed-clause-answer : goal.returns-in-Ok-formed-clause-answer
returns-in-Ok-formed-clause-answer g c = λ beside all.
    let profile = c.args.profile in
    let framed = c.args.framed in
    let read = read_of c.args.class in
    let class = class_view c.in-Ok.class in
    let reads = beside class in
    let here = decoded_formed read class c.in-Ok.ensures c.in-Ok-formed.ensures.1 in
    let same = c.under.ensures.judged ∙ ap (λ k. judged profile (class_view k)) c.in-Ok-formed.ensures.0 in
    let stand = subst (λ (k : JudgedClass). HaveSummaries reads (standing_beside (summary_of k.file) c.args.known.now)) (sym same) (all class) in
    beside_formed (IsExplained framed) profile read beside class here c.explain_formed.result
    (among_formed framed profile read class reads c.explain_formed.result here
    (subst (λ k. ExplainsFormed framed k reads c.explain_formed.result) same (c.explain_formed.ensures.answer reads stand)))

pub returns-clause-answer : goal.returns-clause-answer
returns-clause-answer g c = λ beside all.
    let read = read_of c.args.class in
    beside_refused (IsExplained c.args.framed) c.args.profile read beside c.refused-in-Err-formed.result (λ reads.
    c.refused-in-Err-formed.ensures c.args.framed c.args.profile read reads
    (refused_by read c.in-Ok.class c.in-Err-formed.fault c.in-Ok.ensures c.in-Err-formed.ensures))

pub returns-clause-none : goal.returns-clause-none
returns-clause-none g c =
    none_known (IsExplained c.args.framed) c.args.profile (read_of c.args.class) c.refused-in-Err-formed.result
    (c.refused-in-Err-formed.ensures c.args.framed c.args.profile (read_of c.args.class) []
    (refused_by (read_of c.args.class) c.in-Ok.class c.in-Err-formed.fault c.in-Ok.ensures c.in-Err-formed.ensures))
