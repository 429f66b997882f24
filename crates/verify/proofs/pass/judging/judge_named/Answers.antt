use Rattle.std.proofs.Common.{◌≡◌, ℤ, List, ap, sym, subst}
use Rattle.std.proofs.lemmas.Result.{err_from_is_err_and}
use Rattle.insn.specs.Offsets.{led_to}
use Rattle.insn.specs.Views.{act_view}
use Rattle.method_frames.specs.MapFrames.{frames_by}
use Rattle.rules.specs.After.{after}
use Rattle.rules.specs.Rules.{conditions}
use Rattle.numbered_rules.specs.RunningFrame.{held}
use Rattle.rules.specs.Bodies.{method_view}
use Rattle.rules.specs.Outcomes.{Done, Judges}
use Rattle.rules.specs.Table.{typing_rule}
use Rattle.rules.specs.Ways.{branch_offsets}
use Rattle.verify.specs.private.JudgingSteps.{run_conditions}
use Rattle.verify.specs.Verdict.{target_conditions}
use Rattle.verify.proofs.Ends.{ran_nowhere, ran_on, ran_refused}
use Rattle.verify.proofs.numbered.Running.{targets_from, onward_running}
use Rattle.verify.proofs.pass.judging.judge_named.Goals as goal

pub returns-then-goes_nowhere-clause-judged : goal.returns-then-goes_nowhere-clause-judged
returns-then-goes_nowhere-clause-judged g c =
    let start = c.args.frames.now in
    ran_nowhere start.types.classes (method_view c.args.body.now.method.now) (frames_by start.types start.declared) c.args.at (held start) (act_view c.args.act.now)
    (c.goes_nowhere.ensures c.if-goes_nowhere.true) (held c.run-ran.new.frames) c.run-ran.result c.run-ran.ensures.done

pub returns-in_err-ran-clause-judged : goal.returns-in_err-ran-clause-judged
returns-in_err-ran-clause-judged g c =
    let start = c.args.frames.now in
    let m = method_view c.args.body.now.method.now in
    let a = act_view c.args.act.now in
    let now = held c.run-ran.new.frames in
    let why = c.in_err-ran.field-0.0 in
    let p = err_from_is_err_and c.from_residual.result c.from_residual.ensures.1 in
    let refused = ran_refused start.types.classes m (frames_by start.types start.declared) c.args.at (held start) a now why
    (subst (Done (conditions start.types.classes m c.args.at (typing_rule m a) (held start)) (after m c.args.at (typing_rule m a) (held start)) now) c.in_err-ran.was c.run-ran.ensures.done) in
    rw (p.1, p.2) refused

pub returns-clause-judged : goal.returns-clause-judged
returns-clause-judged g c =
    let start = c.args.frames.now in
    let s = start.types in
    let frames = frames_by s start.declared in
    let m = method_view c.args.body.now.method.now in
    let a = act_view c.args.act.now in
    let p = typing_rule m a in
    let f = held start in
    let ran_frames = c.run-ran.new.frames in
    let now = held ran_frames in
    let ran = (subst (Done (conditions s.classes m c.args.at p f) (after m c.args.at p f) now) c.in_ok-ran.was c.run-ran.ensures.done).outcome in
    let targets : Judges (target_conditions s.classes frames now (led_to c.args.at (branch_offsets a))) c.check_targets.result =
    subst (λ (z : List ℤ). Judges (target_conditions s.classes frames now (led_to c.args.at z)) c.check_targets.result) c.branches_by.ensures
    (targets_from start ran_frames (onward_running start ran_frames c.run-ran.ensures.rest) now _ c.check_targets.result c.check_targets.ensures.judged) in
    let same : held c.check_targets.new.frames ≡ now = ap held c.check_targets.ensures.same in
    subst (λ g1. Done (run_conditions s.classes m frames c.args.at a f) (after m c.args.at p f) g1 c.check_targets.result) (sym same)
    (ran_on s.classes m frames c.args.at f a now c.check_targets.result ran.0 ran.1 targets)
