use Rattle.std.proofs.Common.{◌≡◌, ℕ, List, Result, Bool, Err, sym, subst}
use Rattle.std.specs.Result.{IsErrAnd}
use Rattle.std.proofs.lemmas.Result.{err_from_is_err_and}
use Rattle.classfile.specs.Methods.{Method}
use Rattle.hierarchy.specs.Class.{ClassFact}
use Rattle.insn.specs.Meanings.{Act}
use Rattle.insn.specs.Views.{act_view}
use Rattle.frames.specs.FrameFact.{FrameFact}
use Rattle.numbered_rules.specs.RunningFrame.{held}
use Rattle.rules.specs.Bodies.{method_view}
use Rattle.rules.specs.declared.reason.Reason.TheVariants.{OutOfMemory}
use Rattle.rules.specs.Protected.{member_conditions}
use Rattle.rules.specs.Rules.{conditions}
use Rattle.rules.specs.Table.{typing_rule}
use Rattle.rules.proofs.Lesser.{judges_behind}
use Rattle.verify.specs.declared.applying.Refusal.{Refusal}
use Rattle.verify.specs.private.Judged.{JudgesRule}
use Rattle.verify.proofs.Applied.{stops, refuses, passes}
use Rattle.verify.proofs.applying.judge.Goals as goal

-- memory runs out before the rule is run
no_memory : (classes : List ClassFact) (m : Method Act) (at : ℕ) (a : Act) (f : FrameFact) (r : Result Bool Refusal) → IsErrAnd r (λ e. e.reason ≡ OutOfMemory) → JudgesRule classes m at a (typing_rule m a) f f r
no_memory classes m at a f r h =
    let e = err_from_is_err_and r h in
    let p = typing_rule m a in
    subst (λ (x : Result Bool Refusal). JudgesRule classes m at a p f f x) (sym e.1) (stops classes m at a p f f e.0 e.2)

pub returns-in_err-own-clause-judged : goal.returns-in_err-own-clause-judged
returns-in_err-own-clause-judged g c =
    no_memory c.args.frames.now.types.classes (method_view c.args.body.now.method.now) c.args.at (act_view c.args.act.now) (held c.args.frames.now)
    c.from_residual.result c.from_residual.ensures.1

pub returns-in_err-facts-clause-judged : goal.returns-in_err-facts-clause-judged
returns-in_err-facts-clause-judged g c =
    no_memory c.args.frames.now.types.classes (method_view c.args.body.now.method.now) c.args.at (act_view c.args.act.now) (held c.args.frames.now)
    c.from_residual-in_err-facts.result c.from_residual-in_err-facts.ensures.1

pub returns-in-Err-clause-judged : goal.returns-in-Err-clause-judged
returns-in-Err-clause-judged g c =
    let classes = c.args.frames.now.types.classes in
    let m = method_view c.args.body.now.method.now in
    let a = act_view c.args.act.now in
    let p = typing_rule m a in
    let f = held c.args.frames.now in
    refuses classes m c.args.at a p f (held c.run.new.frames) c.in_ok-own.own c.first_reason-reason.result c.in_ok-own.ensures.own
    (c.first_reason-reason.ensures (conditions classes m c.args.at p f) (member_conditions classes m a f) (record { outcome = c.in-Err.ensures.done.outcome }) c.check_member-used.ensures.judged)

pub returns-in-Err-used-clause-judged : goal.returns-in-Err-used-clause-judged
returns-in-Err-used-clause-judged g c =
    let classes = c.args.frames.now.types.classes in
    let m = method_view c.args.body.now.method.now in
    let a = act_view c.args.act.now in
    let p = typing_rule m a in
    let f = held c.args.frames.now in
    refuses classes m c.args.at a p f (held c.run.new.frames) c.in_ok-own.own c.in-Err-used.reason c.in_ok-own.ensures.own
    (judges_behind (conditions classes m c.args.at p f) (member_conditions classes m a f) c.in_default.field-0 (Err c.in-Err-used.reason) (record { outcome = c.in_default.ensures.done.outcome.0 })
    c.in-Err-used.ensures.judged)

pub returns-in-Ok-clause-judged : goal.returns-in-Ok-clause-judged
returns-in-Ok-clause-judged g c =
    let classes = c.args.frames.now.types.classes in
    let m = method_view c.args.body.now.method.now in
    let a = act_view c.args.act.now in
    let p = typing_rule m a in
    let f = held c.args.frames.now in
    passes classes m c.args.at a p f (held c.run.new.frames) c.in_ok-own.own c.in_default.field-0 tt c.in_ok-own.ensures.own
    (record { outcome = c.in_default.ensures.done.outcome }) c.in-Ok.ensures.judged
