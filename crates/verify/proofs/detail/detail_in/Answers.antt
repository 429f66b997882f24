use Rattle.std.proofs.Common.{◌≡◌, Some, option_map, sym, subst}
use Rattle.std.specs.Prelude.{IfOk}
use Rattle.insn.specs.Views.{act_view}
use Rattle.method_frames.specs.MapFrames.{frames_by}
use Rattle.numbered_rules.specs.RunningFrame.{held}
use Rattle.rules.specs.Bodies.{method_view}
use Rattle.rules.specs.Reasons.{reason_number}
use Rattle.rules.specs.Table.{typing_rule}
use Rattle.rules.specs.declared.reason.Reason.{Reason}
use Rattle.verify.specs.Details.{detail_of}
use Rattle.verify.specs.private.Ran.{detail_in}
use Rattle.verify.proofs.detail.detail_in.Goals as goal

pub returns-in-HandlerNotAssignable-clause-found : goal.returns-in-HandlerNotAssignable-clause-found
returns-in-HandlerNotAssignable-clause-found g c =
    let x = c.args.frames.now in
    let m = method_view c.args.body.now.method.now in
    let a = act_view c.args.refused.act in
    let p = typing_rule m a in
    subst (λ (r : Reason). IfOk c.handler_if.result (λ o. option_map detail_of o ≡ detail_in x.types.classes m (frames_by x.types x.declared) c.args.refused.at a p (reason_number r) (Some (held x))))
    (sym c.in-HandlerNotAssignable.is) (c.handler_if.ensures.found a p)
