use Rattle.std.proofs.Common.{rules, ◌≡◌, ◌∙◌, Bool, true, Some, sym, ap, subst}
use Rattle.names.specs.ReferenceTypes.{is_class_type}
use Rattle.pool.specs.ConstantMeanings.{MethodConstant, method_at}
use Rattle.pool.specs.ConstantViews.{method_constant_view}
use Rattle.insn.specs.Views.{act_view}
use Rattle.rules.specs.Bodies.{method_view}
use Rattle.rules.specs.Interfaces.{calls_indirect, is_indirect}
use Rattle.rules.proofs.Direct.{special_called, special_method, when_ok}
use Rattle.rules.proofs.Using.{called_there}
use Rattle.rules.proofs.class_constants.ClassConstants.calls_indirect.Goals as goal

pub returns-in-Some-method-clause-indirect : goal.returns-in-Some-method-clause-indirect
returns-in-Some-method-clause-indirect g c =
    let m = method_view c.args.method.now in
    let a = act_view c.args.act.now in
    let i = c.in-Some.index in
    let k = method_constant_view c.in-Some-method.called.now in
    let at = sym c.special_index.ensures ∙ c.in-Some.is in
    let there = called_there m a c.in_ok-named.named c.in_ok-named.ensures.found i c.in-Some-method.called.now c.in-Some-method.ensures (special_method a i at) in
    let of_class = sym c.is_of_class.ensures ∙ c.if-is_of_class.true in
    when_ok (λ b. (x : MethodConstant) → method_at m.constant_pool i ≡ Some x → is_class_type x.class ≡ true → b ≡ is_indirect m (Some x)) (λ b. b ≡ calls_indirect m a) c.is_indirect.result
    (λ b found. special_called m a i k b at c.if-not-method.false there (found k there of_class)) c.is_indirect.ensures.found
