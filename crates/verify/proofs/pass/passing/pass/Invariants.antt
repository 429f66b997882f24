use Rattle.std.proofs.Common.{◌≡◌, length}
use Rattle.method_frames.specs.MapFrames.{frames_by}
use Rattle.numbered_rules.specs.RunningFrame.{held}
use Rattle.rules.specs.Table.{typing_rule}
use Rattle.rules.specs.Bodies.{method_view}
use Rattle.verify.specs.Verdict.{code_judged}
use Rattle.verify.proofs.Onward.{Remains}
use Rattle.verify.specs.private.pass.Following.{Follows, IsOnward}
use Rattle.verify.proofs.pass.passing.pass.Given as goal

abbrev pub invariant-loop-code : goal.invariant-loop-code
invariant-loop-code g l =
    let s = l.fn.frames.types in
    let ds = l.fn.frames.declared in
    let m = method_view l.body.method.now in
    record {
      left :
          Remains s.classes m (frames_by s ds) (length l.body.method.now.code.now.code.now) l.code l.comes (held l.frames)
          (code_judged typing_rule s.classes m (frames_by s ds));
      onward : IsOnward l.fn.frames l.frames;
      constants : l.constants.members ≡ l.fn.constants.members;
      handlers : Follows l.frames m.exceptions l.code.at l.handlers;
    }

abbrev pub decreases-loop-code : goal.decreases-loop-code
decreases-loop-code g l = length l.code.rest
