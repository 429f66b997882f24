use Rattle.std.proofs.Common.{◌≡◌, ◌∙◌, sym, ap, Bool}
use Rattle.pool.specs.ConstantMeanings.{constant_at, call_site_at}
use Rattle.insn.specs.Views.{act_view}
use Rattle.rules.specs.Bodies.{method_view}
use Rattle.rules.specs.Constants.{invoke_dynamic, is_bootstrapped}
use Rattle.rules.specs.Naming.{names_bootstrapped}
use Rattle.rules.specs.Table.{typing_rule}
use Rattle.rules.proofs.Settling.{by_typing_rule, by_act}
use Rattle.numbered_rules.specs.RunningFrame.{held}
use Rattle.numbered_rules.proofs.running.run.Goals as goal

pub returns-in-Return-clause-done : goal.returns-in-Return-clause-done
returns-in-Return-clause-done g c = by_act (method_view c.args.body.now.method.now) c.args.at _ _ _ _ _ _ c.in-Return.is (c.return_number.ensures.done c.args.at)

pub returns-in-ReturnReference-clause-done : goal.returns-in-ReturnReference-clause-done
returns-in-ReturnReference-clause-done g c = by_act (method_view c.args.body.now.method.now) c.args.at _ _ _ _ _ _ c.in-ReturnReference.is (c.return_reference.ensures.done c.args.at)

pub returns-in-GetStatic-clause-done : goal.returns-in-GetStatic-clause-done
returns-in-GetStatic-clause-done g c = by_act (method_view c.args.body.now.method.now) c.args.at _ _ _ _ _ _ c.in-GetStatic.is (c.get_static.ensures.done c.args.at)

pub returns-in-PutStatic-clause-done : goal.returns-in-PutStatic-clause-done
returns-in-PutStatic-clause-done g c = by_act (method_view c.args.body.now.method.now) c.args.at _ _ _ _ _ _ c.in-PutStatic.is (c.put_static.ensures.done c.args.at)

pub returns-in-GetField-clause-done : goal.returns-in-GetField-clause-done
returns-in-GetField-clause-done g c = by_act (method_view c.args.body.now.method.now) c.args.at _ _ _ _ _ _ c.in-GetField.is (c.get_field.ensures.done c.args.at)

pub returns-in-PutField-clause-done : goal.returns-in-PutField-clause-done
returns-in-PutField-clause-done g c = by_act (method_view c.args.body.now.method.now) c.args.at _ _ _ _ _ _ c.in-PutField.is (c.put_field.ensures.done c.args.at)

pub returns-in-InvokeVirtual-clause-done : goal.returns-in-InvokeVirtual-clause-done
returns-in-InvokeVirtual-clause-done g c = by_act (method_view c.args.body.now.method.now) c.args.at _ _ _ _ _ _ c.in-InvokeVirtual.is (c.invoke_virtual.ensures.done c.args.at)

pub returns-in-InvokeSpecial-clause-done : goal.returns-in-InvokeSpecial-clause-done
returns-in-InvokeSpecial-clause-done g c = by_act (method_view c.args.body.now.method.now) c.args.at _ _ _ _ _ _ c.in-InvokeSpecial.is (c.invoke_special.ensures.done c.args.at)

pub returns-in-InvokeStatic-clause-done : goal.returns-in-InvokeStatic-clause-done
returns-in-InvokeStatic-clause-done g c = by_act (method_view c.args.body.now.method.now) c.args.at _ _ _ _ _ _ c.in-InvokeStatic.is (c.invoke_static.ensures.done c.args.at)

pub returns-in-InvokeInterface-clause-done : goal.returns-in-InvokeInterface-clause-done
returns-in-InvokeInterface-clause-done g c = by_act (method_view c.args.body.now.method.now) c.args.at _ _ _ _ _ _ c.in-InvokeInterface.is (c.invoke_interface.ensures.done c.args.at)

pub returns-in-LoadConstant-clause-done : goal.returns-in-LoadConstant-clause-done
returns-in-LoadConstant-clause-done g c = by_act (method_view c.args.body.now.method.now) c.args.at _ _ _ _ _ _ c.in-LoadConstant.is (c.loads_constant.ensures.done c.args.at)

pub returns-in-LoadWideConstant-clause-done : goal.returns-in-LoadWideConstant-clause-done
returns-in-LoadWideConstant-clause-done g c = by_act (method_view c.args.body.now.method.now) c.args.at _ _ _ _ _ _ c.in-LoadWideConstant.is (c.loads_constant-in-LoadWideConstant.ensures.done c.args.at)

pub returns-in-NewReferenceArray-clause-done : goal.returns-in-NewReferenceArray-clause-done
returns-in-NewReferenceArray-clause-done g c = by_act (method_view c.args.body.now.method.now) c.args.at _ _ _ _ _ _ c.in-NewReferenceArray.is (c.new_reference_array.ensures.done c.args.at)

pub returns-in-NewMultiArray-clause-done : goal.returns-in-NewMultiArray-clause-done
returns-in-NewMultiArray-clause-done g c = by_act (method_view c.args.body.now.method.now) c.args.at _ _ _ _ _ _ c.in-NewMultiArray.is (c.new_multi_array.ensures.done c.args.at)

pub returns-in-CheckCast-clause-done : goal.returns-in-CheckCast-clause-done
returns-in-CheckCast-clause-done g c = by_act (method_view c.args.body.now.method.now) c.args.at _ _ _ _ _ _ c.in-CheckCast.is (c.check_cast.ensures.done c.args.at)

pub returns-in-InstanceOf-clause-done : goal.returns-in-InstanceOf-clause-done
returns-in-InstanceOf-clause-done g c = by_act (method_view c.args.body.now.method.now) c.args.at _ _ _ _ _ _ c.in-InstanceOf.is (c.instance_of.ensures.done c.args.at)

pub returns-in-ReturnVoid-clause-done : goal.returns-in-ReturnVoid-clause-done
returns-in-ReturnVoid-clause-done g c = by_act (method_view c.args.body.now.method.now) c.args.at _ _ _ _ _ _ c.in-ReturnVoid.is (c.return_nothing.ensures c.args.at)

pub returns-in-New-clause-done : goal.returns-in-New-clause-done
returns-in-New-clause-done g c = by_act (method_view c.args.body.now.method.now) c.args.at _ _ _ _ _ _ c.in-New.is c.new_object.ensures.done

pub returns-in-InvokeDynamic-clause-done : goal.returns-in-InvokeDynamic-clause-done
returns-in-InvokeDynamic-clause-done g c =
    let at = c.args.at in
    let s = c.args.frames.now.types in
    let m = method_view c.args.body.now.method.now in
    let f = held c.args.frames.now in
    let i = c.in-InvokeDynamic.index in
    let o = call_site_at m.constant_pool i in
    let b = c.args.facts.bootstrapped in
    let told : b ≡ is_bootstrapped m (constant_at m.constant_pool i) = c.requires.bootstrapped ∙ ap (λ a. names_bootstrapped m (act_view a)) c.in-InvokeDynamic.is in
    by_typing_rule m at (typing_rule m (act_view c.args.act.now)) (invoke_dynamic m b o) s.classes f (held c.invoke_dynamic.new.frames) c.invoke_dynamic.result
    (ap (λ a. typing_rule m (act_view a)) c.in-InvokeDynamic.is ∙ ap (λ (k : Bool). invoke_dynamic m k o) (sym told)) (c.invoke_dynamic.ensures.done at)

pub returns-in_default-clause-done : goal.returns-in_default-clause-done
returns-in_default-clause-done g c = c.run_plain.ensures.done c.args.at
