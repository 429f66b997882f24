use Rattle.std.proofs.Common.{◌∙◌, option_map, ap, subst}
use Rattle.insn.specs.Views.{act_view}
use Rattle.frames.specs.Conditions.{least}
use Rattle.frames.specs.declared.difference.Sought.TheVariants.{Missing}
use Rattle.method_frames.specs.NumberedFrames.{NumberedFrames}
use Rattle.method_frames.specs.MapFrames.{frames_by}
use Rattle.numbered_rules.specs.RunningFrame.{held}
use Rattle.rules.specs.After.{after}
use Rattle.rules.specs.Bodies.{method_view}
use Rattle.rules.specs.Rules.{conditions}
use Rattle.rules.specs.Table.{typing_rule}
use Rattle.rules.specs.TypingRules.{targets}
use Rattle.verify.specs.DifferencesAt.{at_targets}
use Rattle.verify.specs.Details.{target}
use Rattle.verify.specs.declared.detail.Ran.{Ran}
use Rattle.verify.specs.declared.detail.Ran.TheVariants.{Passed}
use Rattle.verify.specs.private.Ran.{HasRun}
use Rattle.verify.proofs.Detailed.{passed_at, of_passed}
use Rattle.verify.proofs.detail.unknown_in.Goals as goal

pub returns-in_ok-target-in-Passed-clause-found : goal.returns-in_ok-target-in-Passed-clause-found
returns-in_ok-target-in-Passed-clause-found g c =
    let x = c.args.frames.now in
    let y = c.unknown_aside.new.frames in
    let now = c.run_rule.new.frames in
    let m = method_view c.args.body.now.method.now in
    let at = c.args.refused.at in
    let a = act_view c.args.refused.act in
    let p = typing_rule m a in
    let frames = frames_by x.types x.declared in
    let ran_by = subst (λ (r : Ran). HasRun r (least (conditions y.types.classes m at p (held y))) (after m at p (held y)) (held now)) c.in-Passed.is c.in_ok-run_rule.ensures.ran in
    let ran = subst (λ (z : NumberedFrames). HasRun Passed (least (conditions z.types.classes m at p (held z))) (after m at p (held z)) (held now)) c.unknown_aside.ensures.frames ran_by in
    let told =
    c.in_ok-target-in-Passed.ensures.found m
    ∙ ap (λ (z : NumberedFrames). option_map target (at_targets Missing z.types.classes (frames_by z.types z.declared) (held now) (targets at p))) c.run_rule.ensures.rest.others
    ∙ ap (λ (z : NumberedFrames). option_map target (at_targets Missing z.types.classes (frames_by z.types z.declared) (held now) (targets at p))) c.unknown_aside.ensures.frames
    ∙ passed_at x.types.classes m frames at a p (held x) Missing (held now) ran in
    of_passed x.types.classes m frames at a p (held x) c.in_ok-target-in-Passed.target c.in_ok-aside.aside c.or.result c.or.ensures ran.by told c.in_ok-aside.ensures.found
