use Rattle.insn.specs.Offsets.{at_offset}
use Rattle.insn.specs.Views.{act_view}
use Rattle.method_frames.specs.MapFrames.{frames_by}
use Rattle.numbered_rules.specs.RunningFrame.{held}
use Rattle.rules.specs.Bodies.{method_view}
use Rattle.rules.specs.Table.{typing_rule}
use Rattle.verify.specs.Coming.{before, frame_if}
use Rattle.verify.proofs.Meeting.{goes_before, stops_before}
use Rattle.verify.proofs.frames_at.step.Goals as goal

pub returns-then-not-branch-clause-goes : goal.returns-then-not-branch-clause-goes
returns-then-not-branch-clause-goes g c =
    let x = c.args.frames.now in
    let m = method_view c.args.body.now.method.now in
    let o = before (frame_if c.args.comes (held x)) (at_offset (frames_by x.types x.declared) c.args.at) in
    stops_before x.types.classes m c.args.at (typing_rule m (act_view c.args.act.now)) (held c.take_before.new.frames) c.in_ok-take_before.field-0 o c.if-not-branch.true c.in_ok-take_before.ensures.found

pub returns-clause-goes : goal.returns-clause-goes
returns-clause-goes g c =
    let x = c.args.frames.now in
    let y = c.take_before.new.frames in
    let m = method_view c.args.body.now.method.now in
    let o = before (frame_if c.args.comes (held x)) (at_offset (frames_by x.types x.declared) c.args.at) in
    goes_before x y c.take_before.ensures.rest m c.args.at (typing_rule m (act_view c.args.act.now)) c.in_ok-take_before.field-0 o c.if-not-branch.false c.in_ok-take_before.ensures.found
    c.go_on.result (held c.go_on.new.frames) c.go_on.ensures.goes
