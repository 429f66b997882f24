use Rattle.std.proofs.Common.{rules, ◌≡◌, ◌∙◌, drop, Ok, sym, ap, subst}
use Rattle.hierarchy.specs.Answer.{outcome_of}
use Rattle.insn.specs.OperandStacks.{beneath}
use Rattle.insn.specs.Views.{act_view}
use Rattle.frames.specs.VerificationType.{class}
use Rattle.type_numbers.specs.Numbers.{Numbering, IsNumber}
use Rattle.type_numbers.specs.Decoding.{type_by}
use Rattle.type_numbers.proofs.Decoded.{number_read}
use Rattle.rules.specs.After.{top_of}
use Rattle.rules.specs.Bodies.{method_view}
use Rattle.rules.specs.Guards.{Surroundings}
use Rattle.rules.specs.Outcomes.{Judges}
use Rattle.numbered_rules.specs.RunningFrame.{held}
use Rattle.rules.specs.Protected.{object_answer}
use Rattle.rules.proofs.Made.{beneath_drops}
use Rattle.rules.proofs.Using.{judged}
use Rattle.verify.specs.private.pass.Objects.{UsesGuarded}
use Rattle.verify.proofs.numbered.Objects.{none_used}
use Rattle.verify.proofs.pass.members.check_use.Goals as goal

pub returns-in-None-clause-judged : goal.returns-in-None-clause-judged
returns-in-None-clause-judged g c =
    let m = method_view c.args.method.now in
    let a = act_view c.args.act.now in
    let f = held c.args.frames.now in
    let classes = c.args.frames.now.types.classes in
    let used = subst (λ (z : Surroundings). UsesGuarded z.classes m a c.in_ok-guarded_use.field-0) (c.in_ok-makes_own_ready.ensures.same ∙ c.requires.constants) c.in_ok-guarded_use.ensures.used in
    let free = subst (UsesGuarded classes m a) c.in-None.is used in
    subst (λ cs. Judges cs (Ok tt)) (sym (none_used classes m a f free)) (search rules)

pub returns-in-Some-clause-judged : goal.returns-in-Some-clause-judged
returns-in-Some-clause-judged g c =
    let s = c.args.frames.now.types in
    let classes = s.classes in
    let m = method_view c.args.method.now in
    let a = act_view c.args.act.now in
    let f = held c.args.frames.now in
    let found = subst (λ (z : Surroundings). UsesGuarded z.classes m a c.in_ok-guarded_use.field-0) (c.in_ok-makes_own_ready.ensures.same ∙ c.requires.constants) c.in_ok-guarded_use.ensures.used in
    let (u, guarded) = subst (UsesGuarded classes m a) c.in-Some.is found in
    let n = c.item_beneath-object.result in
    let given = c.item_beneath-object.ensures.given in
    let item : type_by s n ≡ top_of (drop c.in-Some.member.above f.stack) = search (rules, c.item_beneath-object.ensures.item) in
    let there : given.0 ≡ top_of (beneath u.member.above f.stack) =
    sym (number_read s n given.0 given.1) ∙ item ∙ ap (λ k. top_of (drop k f.stack)) u.count ∙ ap top_of (sym (beneath_drops u.member.above f.stack)) in
    let object = subst (λ z. IsNumber z n given.0) (sym c.types.ensures) given.1 in
    let own = subst (λ z. IsNumber z c.args.class (class m.class)) (sym c.types.ensures) c.requires.class in
    judged classes m a f u.member c.check_object.result u.used guarded (outcome_of c.object_answer.result)
    (c.object_answer.ensures given.0 m.class object own ∙ ap (λ (z : Numbering). object_answer z.classes m.class given.0) c.types.ensures ∙ ap (object_answer classes m.class) there)
    c.check_object.ensures

pub returns-then-branch-clause-judged : goal.returns-then-branch-clause-judged
returns-then-branch-clause-judged g c = record { outcome = c.in_ok-makes_own_ready.ensures.ready c.if-branch.true }
