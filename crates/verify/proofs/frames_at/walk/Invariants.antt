use Rattle.std.proofs.Common.{◌≡◌, Some, length}
use Rattle.method_frames.specs.MapFrames.{frames_by}
use Rattle.numbered_rules.specs.RunningFrame.{held, IsRunning}
use Rattle.rules.specs.Reasons.{reason_number}
use Rattle.rules.specs.Table.{typing_rule}
use Rattle.rules.specs.Bodies.{method_view}
use Rattle.verify.specs.Coming.{frame_if, met}
use Rattle.verify.proofs.Meeting.{Walks}
use Rattle.verify.proofs.frames_at.walk.Given as goal

abbrev pub invariant-loop-code : goal.invariant-loop-code
invariant-loop-code g l =
    let start = l.fn.frames in
    let classes = start.types.classes in
    let m = method_view l.body.method.now in
    let frames = frames_by start.types start.declared in
    let n = reason_number l.refusal.reason in
    record {
      walks : Walks classes m frames n l.refusal.at (length l.body.method.now.code.now.code.now) l.code (frame_if l.comes (held l.frames)) (met typing_rule classes m frames n m.code (Some (held start)) l.refusal.at);
      running : IsRunning start l.frames;
      constants : l.constants.members ≡ l.fn.constants.members;
    }

abbrev pub decreases-loop-code : goal.decreases-loop-code
decreases-loop-code g l = length l.code.rest
