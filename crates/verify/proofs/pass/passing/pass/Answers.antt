use Rattle.std.proofs.Common.{◌≡◌, ◌⊎◌, ℕ, Bool, ◌+◌, ◌<◌, ◌≤◌, true, is_none, ◌∷◌, Option, Some, Result, Ok, Err, length, refl, sym, ◌∙◌, ap, subst, arith}
use Rattle.std.proofs.lemmas.Bool.Decides.{nat_tests}
use Rattle.layout.specs.Place.{Place}
use Rattle.insn.specs.declared.acts.Act as program
use Rattle.insn.specs.Meanings.{Act}
use Rattle.insn.specs.Offsets.{acts, at_offset, first_offset}
use Rattle.insn.specs.Decoding.{or_none, instructions_in}
use Rattle.classfile.specs.Methods.{Method}
use Rattle.insn.specs.Views.{act_located, act_view}
use Rattle.insn.proofs.CodeResults.{result_at, whole_reading, only_result, has_instruction}
use Rattle.method_frames.specs.MapFrames.{frames_by}
use Rattle.method_frames.specs.NumberedFrames.{NumberedFrames}
use Rattle.numbered_rules.specs.RunningFrame.{held, IsRunning}
use Rattle.rules.specs.Bodies.{method_view}
use Rattle.rules.specs.After.{after as frame_after}
use Rattle.rules.specs.Outcomes.{Done}
use Rattle.rules.specs.Reasons.{reason_view}
use Rattle.rules.specs.Table.{typing_rule}
use Rattle.rules.specs.declared.reason.Reason.{Reason}
use Rattle.rules.specs.declared.reason.Reason.TheVariants.{OutOfMemory}
use Rattle.verify.specs.Verdict.{at_conditions, code_judged, told_of}
use Rattle.verify.proofs.Ends.{done_alone, ran_nowhere}
use Rattle.verify.proofs.Plain.{nowhere}
use Rattle.verify.proofs.Onward.{Remains, left, enters_straight, steps, taken_at, at_end, step_within, last_is, stops_in, stops_at, goes_done}
use Rattle.verify.specs.private.JudgingSteps.{Enters}
use Rattle.verify.specs.private.pass.Following.{Follows, IsOnward}
use Rattle.verify.proofs.numbered.Settling.{follows_later}
use Rattle.verify.proofs.numbered.Running.{onward_on, onward_same, onward_running, entered_from, follows_on, done_from}
use Rattle.verify.proofs.pass.passing.pass.Given.{Over}
use Rattle.verify.proofs.pass.passing.pass.Goals as goal
use Rattle.verify.proofs.pass.passing.pass.Goals.{After-goes_on-comes, After-scope_of, After-run_plain, After-push, After-judge_named, then-not-goes_straight+in_default, else-not-goes_straight}

pub loop-code-init : goal.loop-code-init
loop-code-init g c =
    let start = c.args.frames.now in
    let classes = start.types.classes in
    let m = method_view c.args.body.now.method.now in
    let frames = frames_by start.types start.declared in
    let code = c.args.body.now.method.now.code.now.code.now in
    let only = only_result code (Ok c.requires.spelled.0) c.requires.spelled.1 in
    record {
      left = record {
        instructions = instructions_in code;
        read = ap result_at c.new-code.ensures ∙ sym (whole_reading code) ∙ only ∙ ap Ok (sym (ap or_none only));
        same = ap (left classes m frames (acts (instructions_in code)) true) (sym c.requires.initial);
        within = let all = ap (λ (p : Place). p.at + length p.rest) c.new-code.ensures in omega (arith, all);
      };
      onward = onward_same start;
      constants = refl;
      handlers = subst (λ n. Follows start m.exceptions n c.args.handlers.now) (sym (ap (λ (p : Place). p.at) c.new-code.ensures)) c.requires.handlers;
    }

-- the frame that comes to the instruction is the one before it, or the one that is declared there is
came : (g : Over) (c : After-goes_on-comes g)
    → Enters c.loop-code.frames.types.classes c.loop-code.comes (held c.loop-code.frames) (at_offset (frames_by c.loop-code.frames.types c.loop-code.frames.declared) c.at-at.result)
    (held c.if-not-goes_straight.frames) (Ok tt)
    × IsRunning c.loop-code.frames c.if-not-goes_straight.frames
came g c =
    let x = c.loop-code.frames in
    let declared = at_offset (frames_by x.types x.declared) c.at-at.result in
    elim c.if-not-goes_straight.branch [
      | then-not-goes_straight+in_default w ↦
          (subst (λ (y : NumberedFrames). Enters x.types.classes c.loop-code.comes (held x) declared (held y) (Ok tt) × IsRunning x y) (sym w.frames-is)
          (subst (Enters x.types.classes c.loop-code.comes (held x) declared (held w.enter.new.frames)) w.in_default.is w.enter.ensures.entered, w.enter.ensures.rest))
      | else-not-goes_straight w ↦
          (let straight = c.goes_straight.ensures w.if-not-goes_straight.false in
          subst (λ (y : NumberedFrames). Enters x.types.classes c.loop-code.comes (held x) declared (held y) (Ok tt) × IsRunning x y) (sym w.frames-is)
          (enters_straight x.types.classes c.loop-code.comes (held x) declared straight.0 straight.1, record { others = refl; size = refl }))
    ]

-- what goes on so far
onward_here : (g : Over) (c : After-goes_on-comes g) → IsOnward c.args.frames.now c.if-not-goes_straight.frames
onward_here g c = onward_on c.args.frames.now c.loop-code.frames c.if-not-goes_straight.frames c.loop-code.invariant.onward (onward_running c.loop-code.frames c.if-not-goes_straight.frames (came g c).1)

pub take_act-requires : goal.take_act-requires
take_act-requires g c =
    let more : 0 < length c.loop-code.code.rest = grind (arith, nat_tests, sym c.is_at_end.ensures ∙ c.loop-code-test.true) in
    has_instruction c.loop-code.code c.loop-code.invariant.left.instructions more c.loop-code.invariant.left.read

pub returns-in-Err-clause-judged : goal.returns-in-Err-clause-judged
returns-in-Err-clause-judged g c =
    let start = c.args.frames.now in
    let classes = start.types.classes in
    let m = method_view c.args.body.now.method.now in
    let frames = frames_by start.types start.declared in
    let f = held c.loop-code.frames in
    let v = code_judged typing_rule classes m frames in
    let comes = c.loop-code.comes in
    let now = c.loop-code.invariant.left in
    let x : ℕ × program.Act = (c.at-at.result, c.take_act.result) in
    let one = steps c.loop-code.code c.take_act.new.self x now.instructions now.read (taken_at c.loop-code.code c.take_act.new.self c.at-at.result c.take_act.result c.at-at.ensures c.take_act.ensures) in
    let same : v ≡ left classes m frames (act_located x ∷ acts one.others) comes f = now.same ∙ ap (λ xs. left classes m frames xs comes f) one.all in
    let entered = entered_from start c.loop-code.frames c.loop-code.invariant.onward comes c.at-at.result (held c.enter.new.frames) c.enter.result c.enter.ensures.entered in
    c.refuse.ensures v
    (stops_in classes m frames (act_located x) (acts one.others) comes f v same (held c.enter.new.frames) c.enter.result c.in-Err.reason c.in-Err.is entered)

pub scope_of-requires-clause-handlers : goal.scope_of-requires-clause-handlers
scope_of-requires-clause-handlers g c =
    let m = method_view c.args.body.now.method.now in
    let here = (step_within c.loop-code.code c.take_act.new.self (c.at-at.result, c.take_act.result) (taken_at c.loop-code.code c.take_act.new.self c.at-at.result c.take_act.result c.at-at.ensures c.take_act.ensures)).0 in
    let before = subst (λ n. Follows c.loop-code.frames m.exceptions n c.loop-code.handlers) here c.loop-code.invariant.handlers in
    follows_on c.loop-code.frames c.if-not-goes_straight.frames (came g (goal.at.scope_of-requires-clause-handlers g c).After-goes_on-comes).1 m.exceptions c.at-at.result c.loop-code.handlers before

-- the frame came to the instruction that goes on from it
abbrev HasCome : (g : Over) → After-scope_of g → Type 0
HasCome g c =
    let x = c.loop-code.frames in Enters x.types.classes c.loop-code.comes (held x) (at_offset (frames_by x.types x.declared) c.at-at.result) (held c.if-not-goes_straight.frames) (Ok tt)
    × IsRunning x c.if-not-goes_straight.frames

-- it is done with an instruction in the running frame, whichever start comes next, with this frame after it
abbrev IsDone : NumberedFrames → Method Act → ℕ → Act → Bool → NumberedFrames → Result Unit Reason → Type 0
IsDone x m at a last after r =
    (next : Option ℕ) → is_none next ≡ last → let p = typing_rule m a in
    Done (at_conditions x.types.classes m (frames_by x.types x.declared) at a p next (held x)) (frame_after m at p (held x)) (held after) r

abbrev IsDoneHere : (g : Over) → After-scope_of g → NumberedFrames → Result Unit Reason → Type 0
IsDoneHere g c = IsDone c.if-not-goes_straight.frames (method_view c.args.body.now.method.now) c.at-at.result (act_view c.take_act.result) c.is_at_end-last.result

-- the instruction is refused
stops : (g : Over) (c : After-scope_of g) → HasCome g c → (after : NumberedFrames) (r : Result Unit Reason) (e : Reason) → r ≡ Err e → IsDoneHere g c after r
    → (let start = c.args.frames.now in (e ≡ OutOfMemory)
    ⊎ (told_of (code_judged typing_rule start.types.classes (method_view c.args.body.now.method.now) (frames_by start.types start.declared)) ≡ Some (c.at-at.result, reason_view e)))
stops g c come after r e is done =
    let start = c.args.frames.now in
    let classes = start.types.classes in
    let m = method_view c.args.body.now.method.now in
    let frames = frames_by start.types start.declared in
    let f = held c.loop-code.frames in
    let v = code_judged typing_rule classes m frames in
    let comes = c.loop-code.comes in
    let now = c.loop-code.invariant.left in
    let x : ℕ × program.Act = (c.at-at.result, c.take_act.result) in
    let taken = taken_at c.loop-code.code c.take_act.new.self c.at-at.result c.take_act.result c.at-at.ensures c.take_act.ensures in
    let one = steps c.loop-code.code c.take_act.new.self x now.instructions now.read taken in
    let same : v ≡ left classes m frames (act_located x ∷ acts one.others) comes f = now.same ∙ ap (λ xs. left classes m frames xs comes f) one.all in
    let a : ℕ × Act = act_located x in
    let here = c.if-not-goes_straight.frames in
    let next = first_offset (acts one.others) in
    let entered = entered_from start c.loop-code.frames c.loop-code.invariant.onward comes c.at-at.result (held here) (Ok tt) come.0 in
    let done_here = done_from start here (onward_on start c.loop-code.frames here c.loop-code.invariant.onward (onward_running c.loop-code.frames here come.1)) m x.0 a.1 (typing_rule m a.1) next (held here) (held after) r
    (done next (last_is c.take_act.new.self one.others one.read ∙ sym c.is_at_end-last.ensures)) in
    stops_at classes m frames a (acts one.others) comes f v same (held here) (Ok tt) tt refl entered (held after) r e is done_here

-- it is not
goes : (g : Over) (c : After-scope_of g) → HasCome g c → (after : NumberedFrames) (r : Result Unit Reason) (u : Unit {0}) → r ≡ Ok u → IsDoneHere g c after r
    → (let start = c.args.frames.now in let m = method_view c.args.body.now.method.now in let frames = frames_by start.types start.declared in
    Remains start.types.classes m frames (length c.args.body.now.method.now.code.now.code.now) c.take_act.new.self c.goes_on-comes.result (held after) (code_judged typing_rule start.types.classes m frames))
goes g c come after r u is done =
    let start = c.args.frames.now in
    let classes = start.types.classes in
    let m = method_view c.args.body.now.method.now in
    let frames = frames_by start.types start.declared in
    let f = held c.loop-code.frames in
    let v = code_judged typing_rule classes m frames in
    let comes = c.loop-code.comes in
    let now = c.loop-code.invariant.left in
    let x : ℕ × program.Act = (c.at-at.result, c.take_act.result) in
    let taken = taken_at c.loop-code.code c.take_act.new.self c.at-at.result c.take_act.result c.at-at.ensures c.take_act.ensures in
    let one = steps c.loop-code.code c.take_act.new.self x now.instructions now.read taken in
    let same : v ≡ left classes m frames (act_located x ∷ acts one.others) comes f = now.same ∙ ap (λ xs. left classes m frames xs comes f) one.all in
    let a : ℕ × Act = act_located x in
    let here = c.if-not-goes_straight.frames in
    let next = first_offset (acts one.others) in
    let entered = entered_from start c.loop-code.frames c.loop-code.invariant.onward comes c.at-at.result (held here) (Ok tt) come.0 in
    let done_here = done_from start here (onward_on start c.loop-code.frames here c.loop-code.invariant.onward (onward_running c.loop-code.frames here come.1)) m x.0 a.1 (typing_rule m a.1) next (held here) (held after) r
    (done next (last_is c.take_act.new.self one.others one.read ∙ sym c.is_at_end-last.ensures)) in
    record {
      instructions = one.others;
      read = one.read;
      same = goes_done classes m frames a (acts one.others) comes f v same (held here) (Ok tt) tt refl entered (held after) r u c.goes_on-comes.result is done_here c.goes_on-comes.ensures;
      within = (step_within c.loop-code.code c.take_act.new.self x taken).1 ∙ now.within;
    }

-- the bytes of the instruction are after it
moved : (g : Over) (c : After-scope_of g) → (c.at-at.result ≤ c.take_act.new.self.at) × (length c.take_act.new.self.rest < length c.loop-code.code.rest)
moved g c =
    let within = step_within c.loop-code.code c.take_act.new.self (c.at-at.result, c.take_act.result)
    (taken_at c.loop-code.code c.take_act.new.self c.at-at.result c.take_act.result c.at-at.ensures c.take_act.ensures) in
    (omega (arith, within.0, within.1, within.2), within.2)

-- ---- by its rule

plainly : (g : Over) (c : After-run_plain g)
    → IsDone c.if-not-goes_straight.frames (method_view c.args.body.now.method.now) c.at-at.result (act_view c.take_act.result) c.is_at_end-last.result c.run_plain.new.frames c.run_plain.result
plainly g c next is =
    let x = c.if-not-goes_straight.frames in
    let m = method_view c.args.body.now.method.now in
    let a = act_view c.take_act.result in
    let frames = frames_by x.types x.declared in
    let scope = c.in-Plain.ensures.scope in
    done_alone x.types.classes m frames c.at-at.result (held x) a c.is_at_end-last.result next is scope.1 (held c.run_plain.new.frames) c.run_plain.result
    (ran_nowhere x.types.classes m frames c.at-at.result (held x) a (nowhere a scope.0) (held c.run_plain.new.frames) c.run_plain.result (c.run_plain.ensures.done c.at-at.result))

pub returns-in-Err-run_plain-clause-judged : goal.returns-in-Err-run_plain-clause-judged
returns-in-Err-run_plain-clause-judged g c =
    let start = c.args.frames.now in
    let at = goal.at.returns-in-Err-run_plain-clause-judged g c in
    c.refuse-in-Err-run_plain.ensures (code_judged typing_rule start.types.classes (method_view c.args.body.now.method.now) (frames_by start.types start.declared))
    (stops g at.After-scope_of (came g at.After-goes_on-comes) c.run_plain.new.frames c.run_plain.result c.in-Err-run_plain.reason c.in-Err-run_plain.is (plainly g at.After-run_plain))

pub loop-code-smaller-in_default-run_plain : goal.loop-code-smaller-in_default-run_plain
loop-code-smaller-in_default-run_plain g c = (moved g (goal.at.loop-code-smaller-in_default-run_plain g c).After-scope_of).1

pub loop-code-preserved-in_default-run_plain : goal.loop-code-preserved-in_default-run_plain
loop-code-preserved-in_default-run_plain g c =
    let at = goal.at.loop-code-preserved-in_default-run_plain g c in
    let x = c.if-not-goes_straight.frames in
    let m = method_view c.args.body.now.method.now in
    record {
      left = goes g at.After-scope_of (came g at.After-goes_on-comes) c.run_plain.new.frames c.run_plain.result c.in_default-run_plain.field-0 c.in_default-run_plain.is (plainly g at.After-run_plain);
      onward = onward_on c.args.frames.now x c.run_plain.new.frames (onward_here g at.After-goes_on-comes) (onward_running x c.run_plain.new.frames c.run_plain.ensures.rest);
      constants = c.scope_of.ensures.same ∙ c.loop-code.invariant.constants;
      handlers =
          follows_later c.run_plain.new.frames m.exceptions c.at-at.result c.take_act.new.self.at c.scope_of.new.handlers (moved g at.After-scope_of).0
          (follows_on x c.run_plain.new.frames c.run_plain.ensures.rest m.exceptions c.at-at.result c.scope_of.new.handlers c.scope_of.ensures.handlers);
    }

-- ---- by its rule, which pushes a type at once

pushing : (g : Over) (c : After-push g)
    → IsDone c.if-not-goes_straight.frames (method_view c.args.body.now.method.now) c.at-at.result (act_view c.take_act.result) c.is_at_end-last.result c.push.new.frames c.push.result
pushing g c next is =
    let x = c.if-not-goes_straight.frames in
    let m = method_view c.args.body.now.method.now in
    let a = act_view c.take_act.result in
    let frames = frames_by x.types x.declared in
    let scope = c.in-Plain.ensures.scope in
    done_alone x.types.classes m frames c.at-at.result (held x) a c.is_at_end-last.result next is scope.1 (held c.push.new.frames) c.push.result
    (ran_nowhere x.types.classes m frames c.at-at.result (held x) a (nowhere a scope.0) (held c.push.new.frames) c.push.result (c.push.ensures.done c.at-at.result (typing_rule m a) c.in-Some.ensures))

pub returns-in-Err-push-clause-judged : goal.returns-in-Err-push-clause-judged
returns-in-Err-push-clause-judged g c =
    let start = c.args.frames.now in
    let at = goal.at.returns-in-Err-push-clause-judged g c in
    c.refuse-in-Err-push.ensures (code_judged typing_rule start.types.classes (method_view c.args.body.now.method.now) (frames_by start.types start.declared))
    (stops g at.After-scope_of (came g at.After-goes_on-comes) c.push.new.frames c.push.result c.in-Err-push.reason c.in-Err-push.is (pushing g at.After-push))

pub loop-code-smaller-in_default-push : goal.loop-code-smaller-in_default-push
loop-code-smaller-in_default-push g c = (moved g (goal.at.loop-code-smaller-in_default-push g c).After-scope_of).1

pub loop-code-preserved-in_default-push : goal.loop-code-preserved-in_default-push
loop-code-preserved-in_default-push g c =
    let at = goal.at.loop-code-preserved-in_default-push g c in
    let x = c.if-not-goes_straight.frames in
    let m = method_view c.args.body.now.method.now in
    record {
      left = goes g at.After-scope_of (came g at.After-goes_on-comes) c.push.new.frames c.push.result c.in_default-push.field-0 c.in_default-push.is (pushing g at.After-push);
      onward = onward_on c.args.frames.now x c.push.new.frames (onward_here g at.After-goes_on-comes) (onward_running x c.push.new.frames c.push.ensures.rest);
      constants = c.scope_of.ensures.same ∙ c.loop-code.invariant.constants;
      handlers =
          follows_later c.push.new.frames m.exceptions c.at-at.result c.take_act.new.self.at c.scope_of.new.handlers (moved g at.After-scope_of).0
          (follows_on x c.push.new.frames c.push.ensures.rest m.exceptions c.at-at.result c.scope_of.new.handlers c.scope_of.ensures.handlers);
    }

pub push-requires : goal.push-requires
push-requires g c = (typing_rule (method_view c.args.body.now.method.now) (act_view c.take_act.result), c.in-Some.ensures)

-- ---- by its rule and its targets

with_targets : (g : Over) (c : After-judge_named g)
    → IsDone c.if-not-goes_straight.frames (method_view c.args.body.now.method.now) c.at-at.result (act_view c.take_act.result) c.is_at_end-last.result c.judge_named.new.frames c.judge_named.result
with_targets g c next is =
    let x = c.if-not-goes_straight.frames in
    let m = method_view c.args.body.now.method.now in
    done_alone x.types.classes m (frames_by x.types x.declared) c.at-at.result (held x) (act_view c.take_act.result) c.is_at_end-last.result next is c.in-Named.ensures.scope.2 (held c.judge_named.new.frames)
    c.judge_named.result c.judge_named.ensures.judged

pub returns-in-Err-judge_named-clause-judged : goal.returns-in-Err-judge_named-clause-judged
returns-in-Err-judge_named-clause-judged g c =
    let start = c.args.frames.now in
    let at = goal.at.returns-in-Err-judge_named-clause-judged g c in
    c.refuse-in-Err-judge_named.ensures (code_judged typing_rule start.types.classes (method_view c.args.body.now.method.now) (frames_by start.types start.declared))
    (stops g at.After-scope_of (came g at.After-goes_on-comes) c.judge_named.new.frames c.judge_named.result c.in-Err-judge_named.reason c.in-Err-judge_named.is (with_targets g at.After-judge_named))

pub loop-code-smaller-in_default-judge_named : goal.loop-code-smaller-in_default-judge_named
loop-code-smaller-in_default-judge_named g c = (moved g (goal.at.loop-code-smaller-in_default-judge_named g c).After-scope_of).1

pub loop-code-preserved-in_default-judge_named : goal.loop-code-preserved-in_default-judge_named
loop-code-preserved-in_default-judge_named g c =
    let at = goal.at.loop-code-preserved-in_default-judge_named g c in
    let x = c.if-not-goes_straight.frames in
    let m = method_view c.args.body.now.method.now in
    record {
      left = goes g at.After-scope_of (came g at.After-goes_on-comes) c.judge_named.new.frames c.judge_named.result c.in_default-judge_named.field-0 c.in_default-judge_named.is (with_targets g at.After-judge_named);
      onward = onward_on c.args.frames.now x c.judge_named.new.frames (onward_here g at.After-goes_on-comes) (onward_running x c.judge_named.new.frames c.judge_named.ensures.rest);
      constants = c.scope_of.ensures.same ∙ c.loop-code.invariant.constants;
      handlers =
          follows_later c.judge_named.new.frames m.exceptions c.at-at.result c.take_act.new.self.at c.scope_of.new.handlers (moved g at.After-scope_of).0
          (follows_on x c.judge_named.new.frames c.judge_named.ensures.rest m.exceptions c.at-at.result c.scope_of.new.handlers c.scope_of.ensures.handlers);
    }

-- ---- by all that is asked of it

pub returns-in-Err-judged-clause-judged : goal.returns-in-Err-judged-clause-judged
returns-in-Err-judged-clause-judged g c =
    let at = goal.at.returns-in-Err-judged-clause-judged g c in
    let start = c.args.frames.now in
    c.refuse-in-Err-judged.ensures (code_judged typing_rule start.types.classes (method_view c.args.body.now.method.now) (frames_by start.types start.declared))
    (stops g at.After-scope_of (came g at.After-goes_on-comes) c.judge_wholly-judged.new.frames c.judge_wholly-judged.result c.in-Err-judged.reason c.in-Err-judged.is c.judge_wholly-judged.ensures.judged)

pub loop-code-smaller : goal.loop-code-smaller
loop-code-smaller g c = (moved g (goal.at.loop-code-smaller g c).After-scope_of).1

pub loop-code-preserved : goal.loop-code-preserved
loop-code-preserved g c =
    let at = goal.at.loop-code-preserved g c in
    record {
      left = goes g at.After-scope_of (came g at.After-goes_on-comes) c.judge_wholly-judged.new.frames c.judge_wholly-judged.result c.in_default-judged.field-0 c.in_default-judged.is c.judge_wholly-judged.ensures.judged;
      onward = onward_on c.args.frames.now c.if-not-goes_straight.frames c.judge_wholly-judged.new.frames (onward_here g at.After-goes_on-comes) c.judge_wholly-judged.ensures.rest;
      constants = c.judge_wholly-judged.ensures.same ∙ c.scope_of.ensures.same ∙ c.loop-code.invariant.constants;
      handlers =
          follows_later c.judge_wholly-judged.new.frames (method_view c.args.body.now.method.now).exceptions c.at-at.result c.take_act.new.self.at c.judge_wholly-judged.new.handlers (moved g at.After-scope_of).0
          c.in_default-judged.ensures.handlers;
    }

pub returns-clause-judged : goal.returns-clause-judged
returns-clause-judged g c =
    let start = c.args.frames.now in
    let classes = start.types.classes in
    let m = method_view c.args.body.now.method.now in
    let frames = frames_by start.types start.declared in
    let now = c.loop-code.invariant.left in
    now.same ∙ ap (λ xs. left classes m frames (acts xs) c.loop-code.comes (held c.loop-code.frames))
    (at_end c.loop-code.code now.instructions now.read (sym c.is_at_end.ensures ∙ c.loop-code-test.false))
