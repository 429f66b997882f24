use Rattle.std.proofs.Common.{◌∙◌, Result, sym, subst}
use Rattle.std.proofs.lemmas.Result.{err_from_is_err_and}
use Rattle.insn.specs.Meanings.{act}
use Rattle.insn.specs.Views.{view}
use Rattle.frames.specs.FrameFact.{frame_of}
use Rattle.rules.specs.Bodies.{method_view}
use Rattle.rules.specs.Table.{typing_rule}
use Rattle.verify.specs.Applied.{Applied}
use Rattle.verify.specs.declared.applying.After.{After}
use Rattle.verify.specs.declared.applying.Refusal.{Refusal}
use Rattle.verify.proofs.Applied.{stopped}
use Rattle.verify.proofs.applying.apply.Goals as goal

pub returns-in_err-numbered : goal.returns-in_err-numbered
returns-in_err-numbered g c =
    let classes = g.C.Classes.content c.args.env.now.classes.now in
    let m = method_view c.args.env.now.method in
    let a = act (view c.args.insn.now) in
    let p = typing_rule m a in
    let f = frame_of c.args.frame.now in
    let e = err_from_is_err_and c.from_residual.result c.from_residual.ensures.1 in
    subst (λ (r : Result After Refusal). Applied classes m c.args.at a p f r) (sym e.1) (stopped classes m c.args.at a p f f e.0 e.2)

pub returns : goal.returns
returns g c =
    let m = method_view c.args.env.now.method in
    let a = act (view c.args.insn.now) in
    let f = frame_of c.args.frame.now in
    subst (λ cs. Applied cs m c.args.at a (typing_rule m a) f c.apply_numbered.result) (c.number.ensures.same ∙ c.new-types.ensures.classes) c.apply_numbered.ensures
