use Rattle.std.proofs.Common.{◌≡◌, Option, option_map, ◌∙◌, ap, subst}
use Rattle.std.specs.Prelude.{IfOk}
use Rattle.insn.specs.Views.{act_view}
use Rattle.frames.specs.Conditions.{least}
use Rattle.method_frames.specs.NumberedFrames.{NumberedFrames}
use Rattle.method_frames.specs.MapFrames.{frames_by}
use Rattle.numbered_rules.specs.RunningFrame.{held}
use Rattle.rules.specs.After.{after}
use Rattle.rules.specs.Bodies.{method_view}
use Rattle.rules.specs.Rules.{conditions}
use Rattle.rules.specs.Table.{typing_rule}
use Rattle.rules.specs.TypingRules.{targets}
use Rattle.verify.specs.DifferencesAt.{at_targets}
use Rattle.verify.specs.Details.{DetailFact, target, detail_of}
use Rattle.verify.specs.declared.detail.Ran.{Ran}
use Rattle.verify.specs.private.Ran.{HasRun}
use Rattle.verify.proofs.Detailed.{passed_at}
use Rattle.verify.proofs.detail.target_if.Goals as goal

pub returns-in-Passed-clause-found : goal.returns-in-Passed-clause-found
returns-in-Passed-clause-found g c =
    let s = c.args.sought in
    let x = c.args.frames.now in
    let now = c.run_rule.new.frames in
    let m = method_view c.args.body.now.method.now in
    let at = c.args.refused.at in
    let a = act_view c.args.refused.act in
    let p = typing_rule m a in
    let frames = frames_by x.types x.declared in
    let ran = subst (λ (r : Ran). HasRun r (least (conditions x.types.classes m at p (held x))) (after m at p (held x)) (held now)) c.in-Passed.is c.in_ok-run_rule.ensures.ran in
    let whole = ap (λ (z : NumberedFrames). option_map target (at_targets s z.types.classes (frames_by z.types z.declared) (held now) (targets at p))) c.run_rule.ensures.rest.others
    ∙ passed_at x.types.classes m frames at a p (held x) s (held now) ran in
    subst (λ (z : Option DetailFact). IfOk c.target_after.result (λ o. option_map detail_of o ≡ z)) whole (c.target_after.ensures.found m)
