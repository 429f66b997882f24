use Rattle.std.proofs.Common.{◌≡◌, Option, option_map, sym, ◌∙◌, subst}
use Rattle.std.specs.Prelude.{IfOk}
use Rattle.insn.specs.Views.{act_view}
use Rattle.method_frames.specs.MapFrames.{frames_by}
use Rattle.numbered_rules.specs.RunningFrame.{held}
use Rattle.rules.specs.Bodies.{method_view}
use Rattle.rules.specs.Table.{typing_rule}
use Rattle.verify.specs.Details.{DetailFact, detail_of}
use Rattle.verify.proofs.Detailed.{of_handler}
use Rattle.verify.proofs.detail.unknown_aside.Goals as goal

pub returns-clause-found : goal.returns-clause-found
returns-clause-found g c =
    let x = c.args.frames.now in
    let m = method_view c.args.body.now.method.now in
    let a = act_view c.args.refused.act in
    let p = typing_rule m a in
    let asks = sym c.in_ok-member_asks.ensures.found ∙ c.if-branch.false in
    subst (λ (z : Option DetailFact). IfOk c.handler_if.result (λ o. option_map detail_of o ≡ z)) (of_handler x.types.classes m (frames_by x.types x.declared) c.args.refused.at a p (held x) asks)
    (c.handler_if.ensures.found a p)
