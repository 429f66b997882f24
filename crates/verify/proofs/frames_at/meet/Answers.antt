use Rattle.std.proofs.Common.{refl}
use Rattle.std.specs.Option.{option_map}
use Rattle.insn.specs.Offsets.{at_offset}
use Rattle.insn.specs.Views.{act_view}
use Rattle.frames.specs.FrameFact.{frame_of}
use Rattle.method_frames.specs.MapFrames.{frames_by}
use Rattle.numbered_rules.specs.RunningFrame.{held}
use Rattle.numbered_rules.proofs.Taking.{running_then}
use Rattle.rules.specs.Bodies.{method_view}
use Rattle.rules.specs.Reasons.{reason_number}
use Rattle.rules.specs.Table.{typing_rule}
use Rattle.verify.specs.Coming.{frame_if}
use Rattle.verify.specs.Details.{detail_of}
use Rattle.verify.proofs.Meeting.{before_is, met_is, ready_still}
use Rattle.verify.proofs.frames_at.meet.Goals as goal

pub detail_at-requires-clause-ready : goal.detail_at-requires-clause-ready
detail_at-requires-clause-ready g c = ready_still c.args.body.now c.args.constants.now.members c.args.constants.now.members c.args.frames.now c.take_declared.new.frames refl c.take_declared.ensures.rest c.requires

pub detail_at-requires-clause-before : goal.detail_at-requires-clause-before
detail_at-requires-clause-before g c =
    before_is c.args.comes (held c.args.frames.now) (held c.take_declared.new.frames) (option_map frame_of c.in_ok-coming.coming) c.in_ok-declared.declared c.in_ok-coming.ensures c.in_ok-declared.ensures.running

pub returns-clause-found : goal.returns-clause-found
returns-clause-found g c =
    let x = c.args.frames.now in
    let m = method_view c.args.body.now.method.now in
    let a = act_view c.args.refused.act in
    let at = c.args.refused.at in
    met_is x c.take_declared.new.frames c.take_declared.ensures.rest m at (typing_rule m a) a (reason_number c.args.refused.reason)
    (option_map frame_of c.in_ok-coming.coming) (option_map frame_of c.in_ok-declared.declared) (frame_if c.args.comes (held x)) (at_offset (frames_by x.types x.declared) at)
    (option_map detail_of c.in_ok-met.field-0) c.in_ok-coming.ensures c.in_ok-declared.ensures.found c.in_ok-met.ensures.found

pub returns-clause-rest : goal.returns-clause-rest
returns-clause-rest g c = running_then c.args.frames.now c.take_declared.new.frames c.detail_at.new.frames c.take_declared.ensures.rest c.detail_at.ensures.rest

pub returns-in_err-met-clause-rest : goal.returns-in_err-met-clause-rest
returns-in_err-met-clause-rest g c = running_then c.args.frames.now c.take_declared.new.frames c.detail_at.new.frames c.take_declared.ensures.rest c.detail_at.ensures.rest
