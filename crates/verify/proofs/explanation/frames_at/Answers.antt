use Rattle.std.proofs.Common.{◌≡◌, Option, sym, subst}
use Rattle.std.specs.Prelude.{IfOk, MatchOption}
use Rattle.classfile.specs.CodeMethods.{judged_class}
use Rattle.classfile.specs.Views.{class_view}
use Rattle.rules.specs.Reasons.{reason_number}
use Rattle.verify.specs.Coming.{no_frames, frames_view, AreFramesOf}
use Rattle.verify.specs.declared.frames_at.Refusal.{Refusal}
use Rattle.verify.proofs.explanation.frames_at.Goals as goal

pub returns-in-Some-method-clause-found : goal.returns-in-Some-method-clause-found
returns-in-Some-method-clause-found g c =
    let classes = c.args.frames.now.types.classes in
    let class = judged_class c.args.formed.now in
    let m = c.in-Some-method.method in
    let r = c.frames_of.result in
    let n = reason_number c.in-Some.refusal.reason in
    let at = c.in-Some.refusal.at in
    let here = c.in-Some-method.ensures.here in
    let found =
    subst (λ k. IfOk r (λ x. AreFramesOf classes class k n at (frames_view x))) here.number_is
    (subst (λ d. IfOk r (λ x. AreFramesOf classes (record { file = class.file; dynamic = d }) m.number n at (frames_view x))) here.dynamic_is
    (subst (λ k. IfOk r (λ x. AreFramesOf classes (record { file = class_view k; dynamic = m.dynamic }) m.number n at (frames_view x))) here.class_is c.frames_of.ensures.found)) in
    subst (λ (o : Option Refusal). IfOk r (λ x. MatchOption o (frames_view x ≡ no_frames) (λ k. AreFramesOf classes class c.args.number (reason_number k.reason) k.at (frames_view x)))) (sym c.in-Some.is) found
