use Rattle.std.proofs.Common.{◌≡◌, ℕ, ◌+◌, ◌<◌, ◌∷◌, nat_eq, true, false, Option, Ok, Some, length, refl, sym, ◌∙◌, ap, arith}
use Rattle.std.proofs.lemmas.Bool.Decides.{nat_tests}
use Rattle.classfile.specs.Methods.{Method}
use Rattle.layout.specs.Place.{Place}
use Rattle.insn.specs.declared.acts.Act as program
use Rattle.insn.specs.Code.{StepsBy}
use Rattle.insn.specs.Meanings.{Act}
use Rattle.insn.specs.Offsets.{at_offset, acts, by_act}
use Rattle.insn.specs.Decoding.{or_none, instructions_in}
use Rattle.insn.specs.Views.{act_located}
use Rattle.insn.proofs.CodeResults.{result_at, whole_reading, only_result, has_instruction}
use Rattle.frames.specs.FrameFact.{FrameFact}
use Rattle.method_frames.specs.NumberedFrames.{NumberedFrames}
use Rattle.method_frames.specs.MapFrames.{frames_by}
use Rattle.numbered_rules.specs.RunningFrame.{held, IsRunning}
use Rattle.numbered_rules.proofs.Taking.{running_same, running_then}
use Rattle.rules.specs.Bodies.{method_view}
use Rattle.rules.specs.Reasons.{reason_number}
use Rattle.rules.specs.Table.{typing_rule}
use Rattle.verify.specs.Coming.{FramesFact, frames_with, before, frame_if, going, met}
use Rattle.verify.specs.TypeSafety.{Frames}
use Rattle.verify.proofs.Meeting.{Walks, met_at, goes_past, meets, going_from, met_from, ready_still}
use Rattle.verify.proofs.Onward.{Steps, steps, taken_at, at_end, step_within}
use Rattle.verify.proofs.frames_at.walk.Goals as goal

-- an act is taken from the code that is left, and the running frame alone is another than at the start
module _ {m : Method Act} {n at size : ℕ} {coming : Option FrameFact} {total : FramesFact} (start now : NumberedFrames) (running : IsRunning start now) (old new : Place) (x : ℕ × program.Act)
    (taken : StepsBy act_located by_act old (Some (Ok x)) new) (w : Walks start.types.classes m (frames_by start.types start.declared) n at size old coming total) where
  abbrev a : ℕ × Act
  a = act_located x

  abbrev frames : Frames
  frames = frames_by start.types start.declared

  abbrev one : Steps old new a w.instructions
  one = steps old new x w.instructions w.read taken

  same : total ≡ met_at start.types.classes m frames n at (a ∷ acts one.others) coming
  same = w.same ∙ ap (λ xs. met_at start.types.classes m frames n at xs coming) one.all

  -- the frames are the ones at this instruction
  found_here : nat_eq a.0 at ≡ true
      → frames_with now.types.classes m (frames_by now.types now.declared) a.0 a.1 (typing_rule m a.1) n coming (at_offset (frames_by now.types now.declared) a.0) ≡ total
  found_here here = met_from start now running m a.0 (typing_rule m a.1) a.1 n coming ∙ sym (meets start.types.classes m frames n at a (acts one.others) coming total same here)

  -- or they are found farther on
  walks_on : nat_eq a.0 at ≡ false → (next : Option FrameFact)
      → next ≡ going now.types.classes m a.0 (typing_rule m a.1) (before coming (at_offset (frames_by now.types now.declared) a.0))
      → Walks start.types.classes m frames n at size new next total
  walks_on apart next goes = record {
    instructions = one.others;
    read = one.read;
    same =
        goes_past start.types.classes m frames n at a (acts one.others) coming total same apart next
        (goes ∙ going_from start now running m a.0 (typing_rule m a.1) coming);
    within = (step_within old new x taken).1 ∙ w.within;
  }

pub loop-code-init : goal.loop-code-init
loop-code-init g c =
    let code = c.args.body.now.method.now.code.now.code.now in
    let only = only_result code (Ok c.requires.spelled.0) c.requires.spelled.1 in
    let all = ap (λ (p : Place). p.at + length p.rest) c.new-code.ensures in
    record {
      walks = record {
        instructions = instructions_in code;
        read = ap result_at c.new-code.ensures ∙ sym (whole_reading code) ∙ only ∙ ap Ok (sym (ap or_none only));
        same = refl;
        within = omega (arith, all);
      };
      running = running_same c.args.frames.now;
      constants = refl;
    }

pub take_act-act-requires : goal.take_act-act-requires
take_act-act-requires g c =
    let more : 0 < length c.loop-code.code.rest = grind (arith, nat_tests, sym c.is_at_end.ensures ∙ c.loop-code-test.true) in
    has_instruction c.loop-code.code c.loop-code.invariant.walks.instructions more c.loop-code.invariant.walks.read

pub loop-code-smaller : goal.loop-code-smaller
loop-code-smaller g c = (step_within c.loop-code.code c.take_act-act.new.self (c.at-at.result, c.take_act-act.result) (taken_at c.loop-code.code c.take_act-act.new.self c.at-at.result c.take_act-act.result c.at-at.ensures c.take_act-act.ensures)).2

pub meet-requires : goal.meet-requires
meet-requires g c = ready_still c.args.body.now c.args.constants.now.members c.loop-code.constants.members c.args.frames.now c.loop-code.frames c.loop-code.invariant.constants c.loop-code.invariant.running c.requires.ready

pub step-requires : goal.step-requires
step-requires g c = ready_still c.args.body.now c.args.constants.now.members c.loop-code.constants.members c.args.frames.now c.loop-code.frames c.loop-code.invariant.constants c.loop-code.invariant.running c.requires.ready

pub returns-then-from-refusal-clause-found : goal.returns-then-from-refusal-clause-found
returns-then-from-refusal-clause-found g c =
    let at = c.args.refusal.at in
    let x : ℕ × program.Act = (c.at-at.result, c.take_act-act.result) in
    let taken = taken_at c.loop-code.code c.take_act-act.new.self c.at-at.result c.take_act-act.result c.at-at.ensures c.take_act-act.ensures in
    let here : nat_eq x.0 at ≡ true = grind (arith, nat_tests, c.from.ensures, c.if-from-refusal.true) in
    c.in_ok-meet.ensures.found ∙ found_here c.args.frames.now c.loop-code.frames c.loop-code.invariant.running c.loop-code.code c.take_act-act.new.self x taken c.loop-code.invariant.walks here

pub returns-then-from-refusal-clause-rest : goal.returns-then-from-refusal-clause-rest
returns-then-from-refusal-clause-rest g c = running_then c.args.frames.now c.loop-code.frames c.meet.new.frames c.loop-code.invariant.running c.meet.ensures.rest

pub loop-code-preserved : goal.loop-code-preserved
loop-code-preserved g c =
    let at = c.args.refusal.at in
    let running = c.loop-code.invariant.running in
    let x : ℕ × program.Act = (c.at-at.result, c.take_act-act.result) in
    let taken = taken_at c.loop-code.code c.take_act-act.new.self c.at-at.result c.take_act-act.result c.at-at.ensures c.take_act-act.ensures in
    let apart : nat_eq x.0 at ≡ false = grind (arith, nat_tests, c.from.ensures, c.if-from-refusal.false) in
    record {
      walks =
          walks_on c.args.frames.now c.loop-code.frames running c.loop-code.code c.take_act-act.new.self x taken c.loop-code.invariant.walks apart
          (frame_if c.in_ok-comes.comes (held c.step.new.frames)) c.in_ok-comes.ensures.goes;
      running = running_then c.args.frames.now c.loop-code.frames c.step.new.frames running c.step.ensures.rest;
      constants = c.step.ensures.same ∙ c.loop-code.invariant.constants;
    }

pub returns-clause-found : goal.returns-clause-found
returns-clause-found g c =
    let start = c.args.frames.now in
    let classes = start.types.classes in
    let m = method_view c.args.body.now.method.now in
    let frames = frames_by start.types start.declared in
    let n = reason_number c.args.refusal.reason in
    let at = c.args.refusal.at in
    let running = c.loop-code.invariant.running in
    let coming = frame_if c.loop-code.comes (held c.loop-code.frames) in
    let total = met typing_rule classes m frames n m.code (Some (held start)) at in
    let now = c.loop-code.invariant.walks in
    c.none.ensures ∙ sym (now.same ∙ ap (λ xs. met_at classes m frames n at (acts xs) coming) (at_end c.loop-code.code now.instructions now.read (sym c.is_at_end.ensures ∙ c.loop-code-test.false)))
