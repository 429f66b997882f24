use Rattle.std.proofs.Common.{◌≡◌, ◌∙◌, ℕ, List, Result, Ok, Err, sym, ap, subst}
use Rattle.std.specs.Result.{IsErrAnd}
use Rattle.std.proofs.lemmas.Result.{err_from_is_err_and}
use Rattle.classfile.specs.Methods.{Method}
use Rattle.classfile.specs.Views.{class_view}
use Rattle.hierarchy.specs.Class.{ClassFact}
use Rattle.insn.specs.Meanings.{Act, act}
use Rattle.insn.specs.Views.{act_view, view}
use Rattle.frames.specs.FrameFact.{FrameFact, frame_of}
use Rattle.numbered_rules.specs.RunningFrame.{held}
use Rattle.numbered_rules.specs.RuleNumbers.{AreRuleNumbers}
use Rattle.rules.specs.Bodies.{method_view}
use Rattle.rules.specs.declared.reason.Reason.TheVariants.{OutOfMemory}
use Rattle.rules.specs.Table.{typing_rule}
use Rattle.type_numbers.specs.Numbers.{Numbering}
use Rattle.verify.specs.Applied.{Applied}
use Rattle.verify.specs.declared.applying.After.{After}
use Rattle.verify.specs.declared.applying.Refusal.{Refusal}
use Rattle.verify.proofs.Applied.{stopped, refused, applied, judged_as}
use Rattle.verify.proofs.applying.apply_numbered.Goals as goal

-- memory runs out before the instruction is judged or after it
no_memory : (classes : List ClassFact) (m : Method Act) (at : ℕ) (a : Act) (f : FrameFact) (r : Result After Refusal) → IsErrAnd r (λ e. e.reason ≡ OutOfMemory) → Applied classes m at a (typing_rule m a) f r
no_memory classes m at a f r h =
    let e = err_from_is_err_and r h in
    let p = typing_rule m a in
    subst (λ (x : Result After Refusal). Applied classes m at a p f x) (sym e.1) (stopped classes m at a p f f e.0 e.2)

pub returns-in_err-starts : goal.returns-in_err-starts
returns-in_err-starts g c =
    no_memory c.args.types.now.classes (method_view c.args.env.now.method) c.args.at (act (view c.args.insn.now)) (frame_of c.args.frame.now)
    c.from_residual.result c.from_residual.ensures.1

pub begin-requires-clause-numbered : goal.begin-requires-clause-numbered
begin-requires-clause-numbered g c = (class_view c.args.env.now.method.class.now, c.requires.numbered)

pub returns-in_err-frames : goal.returns-in_err-frames
returns-in_err-frames g c =
    no_memory c.args.types.now.classes (method_view c.args.env.now.method) c.args.at (act (view c.args.insn.now)) (frame_of c.args.frame.now)
    c.from_residual-in_err-frames.result c.from_residual-in_err-frames.ensures.1

pub judge_alone-requires-clause-numbers : goal.judge_alone-requires-clause-numbers
judge_alone-requires-clause-numbers g c =
    let m = method_view c.args.env.now.method in
    subst (λ s. AreRuleNumbers s m c.rule_numbers.result) (sym c.in_ok-frames.ensures.types) (c.rule_numbers.ensures c.args.types.now c.requires.numbered.class)

pub returns-in_err-own : goal.returns-in_err-own
returns-in_err-own g c =
    let classes = c.args.types.now.classes in
    let m = method_view c.args.env.now.method in
    let a = act (view c.args.insn.now) in
    let p = typing_rule m a in
    let f = frame_of c.args.frame.now in
    let same = ap (λ (s : Numbering). s.classes) c.in_ok-frames.ensures.types in
    let e = err_from_is_err_and c.from_residual-in_err-own.result c.from_residual-in_err-own.ensures.1 in
    let now = held c.judge_alone.new.frames in
    let judged = judged_as _ classes m c.args.at (act_view c.act.result) a (held c.in_ok-frames.frames) f now (Err c.in_err-own.field-0.0) same c.act.ensures c.in_ok-frames.ensures.running c.in_err-own.ensures in
    subst (λ (r : Result After Refusal). Applied classes m c.args.at a p f r) (sym (e.1 ∙ ap (λ (x : Refusal). let r : Result After Refusal = Err x in r) e.2))
    (refused classes m c.args.at a p f now c.in_err-own.field-0.0 judged)

pub returns-in_err-leave : goal.returns-in_err-leave
returns-in_err-leave g c =
    no_memory c.args.types.now.classes (method_view c.args.env.now.method) c.args.at (act (view c.args.insn.now)) (frame_of c.args.frame.now)
    c.from_residual-in_err-leave.result c.from_residual-in_err-leave.ensures.1

pub returns : goal.returns
returns g c =
    let classes = c.args.types.now.classes in
    let m = method_view c.args.env.now.method in
    let a = act (view c.args.insn.now) in
    let p = typing_rule m a in
    let f = frame_of c.args.frame.now in
    let same = ap (λ (s : Numbering). s.classes) c.in_ok-frames.ensures.types in
    let now = held c.judge_alone.new.frames in
    let judged = judged_as _ classes m c.args.at (act_view c.act.result) a (held c.in_ok-frames.frames) f now (Ok c.in_ok-own.own) same c.act.ensures c.in_ok-frames.ensures.running c.in_ok-own.ensures in
    applied classes m c.args.at a p f now c.in_ok-own.own c.in_ok-leave.field-0 judged (c.in_ok-leave.ensures m f judged.outcome.1 judged.outcome.2)

pub invariant_of-body : goal.invariant_of-body
invariant_of-body g c = record { code = c.in_ok-starts.ensures }
