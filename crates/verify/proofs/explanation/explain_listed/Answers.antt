use Rattle.std.proofs.Common.{◌≡◌, ◌∙◌, ap, sym, subst}
use Rattle.std.specs.Prelude.{IfOk}
use Rattle.classfile.specs.CodeMethods.{judged_class}
use Rattle.classfile.specs.Views.{class_view}
use Rattle.hierarchy.specs.Rules.{IsHierarchy}
use Rattle.method_frames.specs.NumberedFrames.{NumberedFrames}
use Rattle.type_numbers.specs.Numbers.{Numbering}
use Rattle.verify.specs.Explaining.{IsExplained}
use Rattle.verify.specs.Listed.{IsListed}
use Rattle.verify.specs.private.pass.ClassTypes.{AreClassTypes}
use Rattle.verify.proofs.explanation.explain_listed.Goals as goal

pub explain_methods-requires-clause-hierarchy : goal.explain_methods-requires-clause-hierarchy
explain_methods-requires-clause-hierarchy g c =
    let same = ap (λ (f : NumberedFrames). f.types.classes) c.in_ok-frames.ensures ∙ c.new.ensures.same ∙ c.restart.ensures.classes in
    subst IsHierarchy (sym same) c.requires.hierarchy

pub explain_methods-requires-clause-listed : goal.explain_methods-requires-clause-listed
explain_methods-requires-clause-listed g c =
    let same = ap (λ (f : NumberedFrames). f.types.classes) c.in_ok-frames.ensures ∙ c.new.ensures.same ∙ c.restart.ensures.classes in
    subst (λ classes. IsListed classes (class_view c.args.formed.now.class.now)) (sym same) c.requires.listed

pub explain_methods-requires-clause-types : goal.explain_methods-requires-clause-types
explain_methods-requires-clause-types g c =
    let is = ap (λ (f : NumberedFrames). f.types) c.in_ok-frames.ensures in
    subst (λ k. AreClassTypes c.in_ok-frames.frames.types (class_view k) c.in_ok-types.types) c.class-class.ensures.same
    (subst (λ (s : Numbering). AreClassTypes s (class_view c.class-class.result.now) c.in_ok-types.types) (sym is) c.in_ok-types.ensures.given)

pub returns-clause-found : goal.returns-clause-found
returns-clause-found g c =
    let same = ap (λ (f : NumberedFrames). f.types.classes) c.in_ok-frames.ensures ∙ c.new.ensures.same ∙ c.restart.ensures.classes in
    subst (λ classes. IfOk c.explain_methods.result (IsExplained c.args.framed classes (judged_class c.args.formed.now))) same c.explain_methods.ensures.found
