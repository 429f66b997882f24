use Rattle.std.proofs.Common.{◌∙◌, Err, sym, subst}
use Rattle.classfile.specs.CodeMethods.{judged_class}
use Rattle.classfile.specs.Views.{class_view}
use Rattle.verify.specs.declared.report.ClassFault.TheVariants.{NotInHierarchy, Final}
use Rattle.verify.specs.Reports.{Reports}
use Rattle.verify.specs.private.OpeningSteps.{IsOpened}
use Rattle.verify.proofs.Openings.{if_ok_all}
use Rattle.verify.proofs.judgements.judge.Goals as goal

pub returns-in-Err-clause-judged : goal.returns-in-Err-clause-judged
returns-in-Err-clause-judged g c =
    if_ok_all _ c.refused.result (λ read is. c.refused.ensures.judged c.args.profile c.args.numbers.now.classes read (subst (IsOpened read) c.in-Err.is is))

pub returns-in-Err-NotInHierarchy-clause-judged : goal.returns-in-Err-NotInHierarchy-clause-judged
returns-in-Err-NotInHierarchy-clause-judged g c = λ read is.
    let h = c.args.numbers.now.classes in
    let told : Reports h (judged_class c.under.result) (Err NotInHierarchy) =
    subst (λ e. Reports h (judged_class c.under.result) (Err e)) c.in-Err-NotInHierarchy.field-0-is c.in-Err-NotInHierarchy.ensures.reported in (
      class_view c.in-Ok.formed.class.now,
      subst (IsOpened read) c.in-Ok.is is,
      sym c.name_of-name.ensures,
      subst (λ k. Reports h k (Err NotInHierarchy)) c.under.ensures.judged told,
    )

pub returns-in-Err-Final-clause-judged : goal.returns-in-Err-Final-clause-judged
returns-in-Err-Final-clause-judged g c = λ read is.
    let h = c.args.numbers.now.classes in
    let rule = c.in-Err-Final.rule in
    let told : Reports h (judged_class c.under.result) (Err (Final rule)) =
    subst (λ e. Reports h (judged_class c.under.result) (Err e)) c.in-Err-Final.field-0-is c.in-Err-Final.ensures.reported in (
      class_view c.in-Ok.formed.class.now,
      subst (IsOpened read) c.in-Ok.is is,
      sym c.name_of-name.ensures,
      subst (λ k. Reports h k (Err (Final rule))) c.under.ensures.judged told,
    )
