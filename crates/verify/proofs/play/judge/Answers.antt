use Rattle.std.proofs.Common.{◌≡◌, ◌∙◌, refl, sym, ap, subst, length, Some, None}
use Rattle.classfile.specs.Views.{class_view}
use Rattle.classfile.specs.CodeMethods.{judged_class}
use Rattle.hierarchy.specs.Class.{ClassFact, class_of}
use Rattle.hierarchy.specs.Rules.{IsHierarchy}
use Rattle.hierarchy.specs.Summary.{fact_of}
use Rattle.hierarchy.specs.ClassSummary.{summary_of}
use Rattle.names.specs.MetNames.{Meets}
use Rattle.verify.specs.FinalRules.{final_rule}
use Rattle.verify.specs.Plays.{AreFineBelow, IsFirstRefused}
use Rattle.verify.proofs.Playing.{not_both, not_met, one_more_met}
use Rattle.verify.proofs.play.judge.Goals as goal

pub returns-then-not-branch-clause-judged : goal.returns-then-not-branch-clause-judged
returns-then-not-branch-clause-judged g c play here met =
    let h = g.C.Classes.content c.classes-classes.result.now in
    let e : fact_of c.in_ok-summary.summary ≡ summary_of (class_view c.args.formed.now.class.now) = c.in_ok-summary.ensures in
    (refl, rw (← c.classes-classes.ensures) (λ l. not_both c.in_ok-has_summary.field-0 (c.in_ok-has_summary.ensures.found.1 (subst (λ z. class_of h z.name ≡ Some z) (sym e) l)) c.if-not-branch.true))

pub returns-in-Some-clause-judged : goal.returns-in-Some-clause-judged
returns-in-Some-clause-judged g c play here met =
    let h = g.C.Classes.content c.classes-classes.result.now in
    let e : fact_of c.in_ok-summary.summary ≡ summary_of (class_view c.args.formed.now.class.now) = c.in_ok-summary.ensures in
    (refl, rw (← c.classes-classes.ensures) (subst (λ z. class_of h z.name ≡ Some z) e (c.in_ok-has_summary.ensures.found.0 c.if-not-branch.false), ap (final_rule h) (sym e) ∙ sym c.in_ok-rule.ensures ∙ c.in-Some.is))

pub returns-clause-judged : goal.returns-clause-judged
returns-clause-judged g c play here met =
    let h = g.C.Classes.content c.classes-classes.result.now in
    let own = summary_of (class_view c.args.formed.now.class.now) in
    let e : fact_of c.in_ok-summary.summary ≡ own = c.in_ok-summary.ensures in
    let plain : final_rule h own ≡ None = ap (final_rule h) (sym e) ∙ sym c.in_ok-rule.ensures ∙ c.in_default.is in (
      refl,
      (
        rw (← c.classes-classes.ensures) plain,
        not_met play c.args.class c.args.names.now (ap (λ (z : ClassFact). z.name) e) met c.meet.new.self c.in_ok-meet.field-0 c.in_ok-meet.ensures c.if-branch.false,
        (c.in-Ok.report.methods.items, c.in-Ok.ensures.found, subst (λ rs. IsFirstRefused rs c.in-Some-first_refused.number c.in-Some-first_refused.method) c.deref.ensures.value c.in-Some-first_refused.ensures),
      ),
    )

pub returns-in-None-clause-judged : goal.returns-in-None-clause-judged
returns-in-None-clause-judged g c play here met =
    let h = g.C.Classes.content c.classes-classes.result.now in
    let own = summary_of (class_view c.args.formed.now.class.now) in
    let e : fact_of c.in_ok-summary.summary ≡ own = c.in_ok-summary.ensures in
    let plain : final_rule h own ≡ None = ap (final_rule h) (sym e) ∙ sym c.in_ok-rule.ensures ∙ c.in_default.is in
    let name : c.in_ok-summary.summary.name.now ≡ own.name = ap (λ (z : ClassFact). z.name) e in (
      subst IsHierarchy c.classes-classes.ensures c.in_ok-has_summary.ensures.formed,
      record {
        report = c.in-Ok.ensures.found;
        not_final = rw (← c.classes-classes.ensures) plain;
        first = not_met play c.args.class c.args.names.now name met c.meet.new.self c.in_ok-meet.field-0 c.in_ok-meet.ensures c.if-branch.false;
        verified = subst (λ rs. AreFineBelow rs (length rs)) c.deref.ensures.value c.in-None.ensures;
      },
      one_more_met play c.args.class (judged_class c.args.formed.now) c.args.names.now c.meet.new.self c.in_ok-meet.field-0 here met (subst (λ n. Meets c.args.names.now c.meet.new.self n c.in_ok-meet.field-0) name c.in_ok-meet.ensures),
    )
