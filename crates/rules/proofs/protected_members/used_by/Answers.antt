use Rattle.std.proofs.Common.{◌≡◌, ◌∙◌, sym, ap}
use Rattle.std.specs.Option.{option_and_then}
use Rattle.pool.specs.ConstantMeanings.{MethodConstant, method_at}
use Rattle.pool.specs.ConstantViews.{method_constant_view}
use Rattle.insn.specs.Views.{act_view}
use Rattle.rules.specs.Bodies.{method_view}
use Rattle.rules.proofs.Using.{gets, puts, called_there, calls}
use Rattle.rules.specs.Naming.{method_index}
use Rattle.rules.specs.Protected.{method_use, used_by}
use Rattle.rules.proofs.protected_members.used_by.Goals as goal

pub returns-in_ok-field-in-GetField : goal.returns-in_ok-field-in-GetField
returns-in_ok-field-in-GetField c =
    gets (method_view c.args.method.now) (act_view c.args.act.now) c.args.named.now c.requires c.in-GetField.index c.in_ok-field-in-GetField.field-0
    (sym c.in_ok-field-in-GetField.ensures) (ap act_view c.in-GetField.is)

pub returns-in_ok-field-in-PutField : goal.returns-in_ok-field-in-PutField
returns-in_ok-field-in-PutField c =
    puts (method_view c.args.method.now) (act_view c.args.act.now) c.args.named.now c.requires c.in-PutField.index c.in_ok-field-in-PutField.field-0
    (sym c.in_ok-field-in-PutField.ensures) (ap act_view c.in-PutField.is)

pub returns-in_ok-method-in-InvokeVirtual : goal.returns-in_ok-method-in-InvokeVirtual
returns-in_ok-method-in-InvokeVirtual c =
    let m = method_view c.args.method.now in
    let a = act_view c.args.act.now in
    let i = c.in-InvokeVirtual.index in
    let called = c.in_ok-method-in-InvokeVirtual.field-0.now in
    let is = ap act_view c.in-InvokeVirtual.is in
    let there = called_there m a c.args.named.now c.requires i called c.in_ok-method-in-InvokeVirtual.ensures (ap method_index is) in
    calls m a c.args.named.now c.requires i (method_constant_view called) there
    (ap (used_by m) is ∙ ap (option_and_then (λ (x : MethodConstant). method_use x x.interface x.class)) there) c.call_use.result c.call_use.ensures
