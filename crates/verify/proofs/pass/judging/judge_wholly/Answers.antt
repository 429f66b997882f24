use Rattle.std.proofs.Common.{◌≡◌, ◌∙◌, ◌&&◌, ◌∷◌, [], length, ℕ, Bool, Result, ap, subst}
use Rattle.std.specs.Prelude.{OnOk, IsOk}
use Rattle.classfile.specs.Methods.{Method}
use Rattle.insn.specs.Meanings.{Act}
use Rattle.insn.specs.Views.{act_view}
use Rattle.frames.specs.Conditions.{reason}
use Rattle.method_frames.specs.MapFrames.{frames_by}
use Rattle.frames.specs.FrameFact.{FrameFact}
use Rattle.rules.specs.After.{after}
use Rattle.rules.specs.Bodies.{method_view}
use Rattle.numbered_rules.specs.RunningFrame.{held}
use Rattle.rules.specs.Outcomes.{Done, Judges}
use Rattle.rules.specs.Protected.{member_conditions}
use Rattle.rules.specs.ReasonNumbers.{falls_off, constructor_covered}
use Rattle.rules.specs.Rules.{constructs_own}
use Rattle.rules.specs.Table.{typing_rule}
use Rattle.rules.specs.Ways.{goes_on}
use Rattle.rules.specs.declared.reason.Reason.{Reason}
use Rattle.verify.specs.private.JudgingSteps.{aside_conditions, run_conditions}
use Rattle.verify.specs.Verdict.{before_conditions, handler_conditions, is_covered}
use Rattle.verify.proofs.Ends.{done_together}
use Rattle.verify.proofs.numbered.Running.{on_ok, when_ok}
use Rattle.method_frames.specs.NumberedFrames.{NumberedFrames}
use Rattle.verify.specs.private.pass.Following.{Follows}
use Rattle.verify.proofs.numbered.Running.{onward_on, onward_kept, onward_running, numbers_to, follows_on}
use Rattle.verify.proofs.pass.judging.judge_wholly.Goals as goal

-- whether it goes on, and whether an entry covers a constructor's call, as the instruction says
end_as : (m : Method Act) (at : ℕ) (a : Act) (last : Bool) (f : FrameFact) (goes covered : Bool) (r : Result Unit Reason)
    → goes ≡ goes_on a → covered ≡ (constructs_own (typing_rule m a) f && is_covered m.exceptions at)
    → Judges ((reason 71, goes && last) ∷ (reason 75, covered) ∷ []) r
    → Judges ((reason falls_off, goes_on a && last) ∷ (reason constructor_covered, constructs_own (typing_rule m a) f && is_covered m.exceptions at) ∷ []) r
end_as m at a last f goes covered r g e j =
    subst (λ z. Judges ((reason 71, z && last) ∷ (reason 75, constructs_own (typing_rule m a) f && is_covered m.exceptions at) ∷ []) r) g
    (subst (λ z. Judges ((reason 71, goes && last) ∷ (reason 75, z) ∷ []) r) e j)

pub judge_named-judged-requires-clause-locals : goal.judge_named-judged-requires-clause-locals
judge_named-judged-requires-clause-locals g c = ap (λ (x : NumberedFrames). length x.running.locals) c.catch-caught.ensures.rest ∙ c.requires.locals

pub judge_named-judged-requires-clause-numbers : goal.judge_named-judged-requires-clause-numbers
judge_named-judged-requires-clause-numbers g c =
    let start = c.args.frames.now in
    numbers_to start c.catch-caught.new.frames (onward_kept start c.catch-caught.new.frames c.catch-caught.ensures.rest) (method_view c.args.body.now.method.now) c.args.body.now.numbers c.requires.numbers

pub judge_named-judged-requires-clause-own : goal.judge_named-judged-requires-clause-own
judge_named-judged-requires-clause-own g c = c.in_ok-facts.ensures.own

pub judge_named-judged-requires-clause-bootstrapped : goal.judge_named-judged-requires-clause-bootstrapped
judge_named-judged-requires-clause-bootstrapped g c = c.in_ok-facts.ensures.bootstrapped

pub catch-caught-requires : goal.catch-caught-requires
catch-caught-requires g c = record { follows = ((method_view c.args.body.now.method.now).exceptions, c.requires.handlers); ahead = c.requires.ahead }

pub returns-clause-judged : goal.returns-clause-judged
returns-clause-judged g c = λ next e.
    let start = c.args.frames.now in
    let classes = start.types.classes in
    let frames = frames_by start.types start.declared in
    let m = method_view c.args.body.now.method.now in
    let a = act_view c.args.act.now in
    let p = typing_rule m a in
    let f = held start in
    let covered = c.in_ok-covered.ensures.covered start m.exceptions c.requires.handlers c.requires.ahead in
    let caught = c.catch-caught.ensures.judged m.exceptions c.requires.handlers in
    let before = c.together-before.ensures.judged (member_conditions classes m a f) (handler_conditions classes frames c.args.at f m.exceptions) c.check_member-used.ensures.judged caught in
    let end = end_as m c.args.at a c.args.last f c.goes_on.result c.in_ok-covered.covered c.check_end.result c.goes_on.ensures covered c.check_end.ensures in
    let aside : Judges (aside_conditions classes m frames c.args.at a c.args.last f) c.together-aside.result =
    c.together-aside.ensures.judged (before_conditions classes m frames c.args.at a f)
    ((reason falls_off, goes_on a && c.args.last) ∷ (reason constructor_covered, constructs_own (typing_rule m a) f && is_covered m.exceptions c.args.at) ∷ []) before end in
    let judged = subst (λ (y : NumberedFrames). Done (run_conditions y.types.classes m (frames_by y.types y.declared) c.args.at a (held y)) (after m c.args.at p (held y)) (held c.judge_named-judged.new.frames) c.judge_named-judged.result)
    c.catch-caught.ensures.rest c.judge_named-judged.ensures.judged in
    done_together classes m frames c.args.at f a c.args.last next e (held c.judge_named-judged.new.frames) c.judge_named-judged.result c.together-aside.result c.together.result judged aside
    c.together.ensures.judged c.together.ensures.both

pub returns-clause-rest : goal.returns-clause-rest
returns-clause-rest g c =
    let start = c.args.frames.now in
    onward_on start c.catch-caught.new.frames c.judge_named-judged.new.frames (onward_kept start c.catch-caught.new.frames c.catch-caught.ensures.rest)
    (onward_running c.catch-caught.new.frames c.judge_named-judged.new.frames c.judge_named-judged.ensures.rest)

pub returns-clause-handlers : goal.returns-clause-handlers
returns-clause-handlers g c =
    let m = method_view c.args.body.now.method.now in
    let caught_frames = c.catch-caught.new.frames in
    on_ok c.together.result (λ u is.
    let ok = subst (λ (r : Result Unit _). OnOk r (IsOk c.judge_named-judged.result × IsOk c.together-aside.result)) is c.together.ensures.both in
    let sides = when_ok (IsOk c.together-before.result × IsOk c.check_end.result) c.together-aside.result ok.1 c.together-aside.ensures.both in
    let both = when_ok (IsOk c.check_member-used.result × IsOk c.catch-caught.result) c.together-before.result sides.0 c.together-before.ensures.both in
    let followed = when_ok (Follows caught_frames m.exceptions c.args.at c.catch-caught.new.self) c.catch-caught.result both.1 (c.catch-caught.ensures.followed m.exceptions c.requires.handlers) in
    follows_on caught_frames c.judge_named-judged.new.frames c.judge_named-judged.ensures.rest m.exceptions c.args.at c.catch-caught.new.self followed)
