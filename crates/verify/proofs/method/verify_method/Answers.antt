use Rattle.std.proofs.Common.{◌≡◌, ◌∙◌, ap, sym, subst}
use Rattle.classfile.specs.CodeMethods.{judged_class}
use Rattle.classfile.specs.Views.{class_view}
use Rattle.method_frames.specs.NumberedFrames.{NumberedFrames}
use Rattle.verify.specs.Answers.{Answers}
use Rattle.verify.specs.Listed.{IsListed}
use Rattle.verify.proofs.verdicts.Answering.{only_then, safe_then}
use Rattle.verify.proofs.method.verify_method.Goals as goal

pub verify_listed-requires-clause-listed : goal.verify_listed-requires-clause-listed
verify_listed-requires-clause-listed g c =
    let same : c.in_ok-frames.frames.types.classes ≡ g.C.Classes.content c.args.classes.now =
    ap (λ (f : NumberedFrames). f.types.classes) c.in_ok-frames.ensures ∙ c.new.ensures.same ∙ c.new-numbers.ensures.classes in
    subst (λ classes. IsListed classes (class_view c.args.formed.now.class.now)) (sym same) (c.in_ok-is_listed.ensures.found.0 c.if-not-branch.false)

pub returns-clause-exactly : goal.returns-clause-exactly
returns-clause-exactly g c =
    let same : c.in_ok-frames.frames.types.classes ≡ g.C.Classes.content c.args.classes.now =
    ap (λ (f : NumberedFrames). f.types.classes) c.in_ok-frames.ensures ∙ c.new.ensures.same ∙ c.new-numbers.ensures.classes in
    subst (λ classes. Answers classes (judged_class c.args.formed.now) c.args.number c.verify_listed.result) same c.verify_listed.ensures.answered

pub returns-clause-only : goal.returns-clause-only
returns-clause-only g c =
    let same : c.in_ok-frames.frames.types.classes ≡ g.C.Classes.content c.args.classes.now =
    ap (λ (f : NumberedFrames). f.types.classes) c.in_ok-frames.ensures ∙ c.new.ensures.same ∙ c.new-numbers.ensures.classes in
    only_then (g.C.Classes.content c.args.classes.now) (judged_class c.args.formed.now) c.args.number c.verify_listed.result
    (subst (λ classes. Answers classes (judged_class c.args.formed.now) c.args.number c.verify_listed.result) same c.verify_listed.ensures.answered)

pub returns-clause-safe : goal.returns-clause-safe
returns-clause-safe g c =
    let same : c.in_ok-frames.frames.types.classes ≡ g.C.Classes.content c.args.classes.now =
    ap (λ (f : NumberedFrames). f.types.classes) c.in_ok-frames.ensures ∙ c.new.ensures.same ∙ c.new-numbers.ensures.classes in
    safe_then (g.C.Classes.content c.args.classes.now) (judged_class c.args.formed.now) c.args.number
    c.in_ok-is_listed.ensures.formed c.verify_listed.result
    (subst (λ classes. Answers classes (judged_class c.args.formed.now) c.args.number c.verify_listed.result) same c.verify_listed.ensures.answered)
