use Rattle.std.proofs.Common.{◌∙◌, sym, ap}
use Rattle.std.specs.Prelude.{Bool, option_map}
use Rattle.names.specs.References.{reference_view}
use Rattle.pool.specs.ConstantMeanings.{constant_at, class_at, field_at, dynamic_type_at, call_site_at}
use Rattle.insn.specs.Views.{act_view}
use Rattle.rules.specs.TypingRules.{number}
use Rattle.rules.specs.Table.{typing_rule}
use Rattle.rules.specs.Bodies.{method_view}
use Rattle.rules.specs.Constants.{put_static, get_field, put_field, invoke_static, invoke_virtual, invoke_special, invoke_interface, invoke_dynamic, new_reference_array, new_multi_array, check_cast, instance_of}
use Rattle.rules.specs.ExpectedTypes.{of_local, types_view}
use Rattle.rules.proofs.Expecting.{by_rule, by_rule_at_once, nothing_static, nothing_made, nothing_returned, nothing_loaded, nothing_loaded_wide, as_tests}
use Rattle.rules.proofs.NamedParts.{class_is, field_is, method_is, site_is, bootstrapped_is}
use Rattle.rules.proofs.expected_types.ExpectedTypes.of.Goals as goal

pub returns-in-PutStatic : goal.returns-in-PutStatic
returns-in-PutStatic c =
    let m = method_view c.args.method.now in
    by_rule (typing_rule m (act_view c.args.act.now)) _ c.of_put_static.result
    (ap (λ a. typing_rule m (act_view a)) c.in-PutStatic.is ∙ sym (ap put_static (field_is m c.args.act.now _ c.args.named.now c.field.result c.field.ensures c.requires c.in-PutStatic.is)))
    c.of_put_static.ensures

pub returns-in-GetField : goal.returns-in-GetField
returns-in-GetField c =
    let m = method_view c.args.method.now in
    by_rule (typing_rule m (act_view c.args.act.now)) _ c.of_get_field.result
    (ap (λ a. typing_rule m (act_view a)) c.in-GetField.is ∙ sym (ap get_field (field_is m c.args.act.now _ c.args.named.now c.field-in-GetField.result c.field-in-GetField.ensures c.requires c.in-GetField.is)))
    c.of_get_field.ensures

pub returns-in-PutField : goal.returns-in-PutField
returns-in-PutField c =
    let m = method_view c.args.method.now in
    by_rule (typing_rule m (act_view c.args.act.now)) _ c.of_put_field.result
    (ap (λ a. typing_rule m (act_view a)) c.in-PutField.is ∙ sym (ap (put_field m) (field_is m c.args.act.now _ c.args.named.now c.field-in-PutField.result c.field-in-PutField.ensures c.requires c.in-PutField.is)))
    c.of_put_field.ensures

pub returns-in-InvokeVirtual : goal.returns-in-InvokeVirtual
returns-in-InvokeVirtual c =
    let m = method_view c.args.method.now in
    by_rule (typing_rule m (act_view c.args.act.now)) _ c.of_virtual_call.result
    (ap (λ a. typing_rule m (act_view a)) c.in-InvokeVirtual.is ∙ sym (ap invoke_virtual (c.method.ensures ∙ method_is m c.args.act.now _ c.args.named.now c.requires c.in-InvokeVirtual.is)))
    c.of_virtual_call.ensures

pub returns-in-InvokeSpecial : goal.returns-in-InvokeSpecial
returns-in-InvokeSpecial c =
    let m = method_view c.args.method.now in
    by_rule (typing_rule m (act_view c.args.act.now)) _ c.of_special_call.result
    (ap (λ a. typing_rule m (act_view a)) c.in-InvokeSpecial.is ∙ sym (ap (invoke_special m.major_version m.class) (c.method-in-InvokeSpecial.ensures ∙ method_is m c.args.act.now _ c.args.named.now c.requires c.in-InvokeSpecial.is)))
    c.of_special_call.ensures

pub returns-in-InvokeStatic : goal.returns-in-InvokeStatic
returns-in-InvokeStatic c =
    let m = method_view c.args.method.now in
    by_rule (typing_rule m (act_view c.args.act.now)) _ c.of_static_call.result
    (ap (λ a. typing_rule m (act_view a)) c.in-InvokeStatic.is ∙ sym (ap (invoke_static m.major_version) (c.method-in-InvokeStatic.ensures ∙ method_is m c.args.act.now _ c.args.named.now c.requires c.in-InvokeStatic.is)))
    c.of_static_call.ensures

pub returns-in-InvokeInterface : goal.returns-in-InvokeInterface
returns-in-InvokeInterface c =
    let m = method_view c.args.method.now in
    by_rule (typing_rule m (act_view c.args.act.now)) _ c.of_interface_call.result
    (ap (λ a. typing_rule m (act_view a)) c.in-InvokeInterface.is ∙ sym (ap (invoke_interface c.in-InvokeInterface.count) (c.method-in-InvokeInterface.ensures ∙ method_is m c.args.act.now _ c.args.named.now c.requires c.in-InvokeInterface.is)))
    c.of_interface_call.ensures

pub returns-in-InvokeDynamic : goal.returns-in-InvokeDynamic
returns-in-InvokeDynamic c =
    let m = method_view c.args.method.now in
    by_rule (typing_rule m (act_view c.args.act.now)) _ c.of_dynamic_call.result
    (ap (λ a. typing_rule m (act_view a)) c.in-InvokeDynamic.is ∙ sym (ap (λ (b : Bool). invoke_dynamic m b (call_site_at m.constant_pool c.in-InvokeDynamic.index)) (bootstrapped_is m c.args.act.now _ c.args.named.now c.is_bootstrapped.result c.is_bootstrapped.ensures c.requires c.in-InvokeDynamic.is))
    ∙ sym (ap (invoke_dynamic m c.is_bootstrapped.result) (c.site.ensures ∙ site_is m c.args.act.now _ c.args.named.now c.requires c.in-InvokeDynamic.is)))
    c.of_dynamic_call.ensures

pub returns-in-NewReferenceArray : goal.returns-in-NewReferenceArray
returns-in-NewReferenceArray c =
    let m = method_view c.args.method.now in
    by_rule (typing_rule m (act_view c.args.act.now)) _ c.of_new_reference_array.result
    (ap (λ a. typing_rule m (act_view a)) c.in-NewReferenceArray.is ∙ sym (ap new_reference_array (class_is m c.args.act.now _ c.args.named.now c.class.result c.class.ensures c.requires c.in-NewReferenceArray.is)))
    c.of_new_reference_array.ensures

pub returns-in-NewMultiArray : goal.returns-in-NewMultiArray
returns-in-NewMultiArray c =
    let m = method_view c.args.method.now in
    by_rule (typing_rule m (act_view c.args.act.now)) _ c.of_new_multi_array.result
    (ap (λ a. typing_rule m (act_view a)) c.in-NewMultiArray.is ∙ sym (ap (new_multi_array c.in-NewMultiArray.dimensions) (class_is m c.args.act.now _ c.args.named.now c.class-in-NewMultiArray.result c.class-in-NewMultiArray.ensures c.requires c.in-NewMultiArray.is)))
    c.of_new_multi_array.ensures

pub returns-in-CheckCast : goal.returns-in-CheckCast
returns-in-CheckCast c =
    let m = method_view c.args.method.now in
    by_rule (typing_rule m (act_view c.args.act.now)) _ c.of_cast.result
    (ap (λ a. typing_rule m (act_view a)) c.in-CheckCast.is ∙ sym (ap check_cast (class_is m c.args.act.now _ c.args.named.now c.class-in-CheckCast.result c.class-in-CheckCast.ensures c.requires c.in-CheckCast.is)))
    c.of_cast.ensures

pub returns-in-InstanceOf : goal.returns-in-InstanceOf
returns-in-InstanceOf c =
    let m = method_view c.args.method.now in
    let named = class_is m c.args.act.now _ c.args.named.now c.class-in-InstanceOf.result c.class-in-InstanceOf.ensures c.requires c.in-InstanceOf.is in
    by_rule (typing_rule m (act_view c.args.act.now)) _ c.of_cast-in-InstanceOf.result
    (ap (λ a. typing_rule m (act_view a)) c.in-InstanceOf.is ∙ sym (ap instance_of named))
    (as_tests (option_map reference_view c.class-in-InstanceOf.result) c.of_cast-in-InstanceOf.result c.of_cast-in-InstanceOf.ensures)

pub returns-in-Return : goal.returns-in-Return
returns-in-Return c =
    let m = method_view c.args.method.now in
    by_rule (typing_rule m (act_view c.args.act.now)) _ c.of_returned_number.result
    (ap (λ a. typing_rule m (act_view a)) c.in-Return.is)
    c.of_returned_number.ensures

pub returns-in-ReturnReference : goal.returns-in-ReturnReference
returns-in-ReturnReference c =
    let m = method_view c.args.method.now in
    by_rule (typing_rule m (act_view c.args.act.now)) _ c.of_returned_reference.result
    (ap (λ a. typing_rule m (act_view a)) c.in-ReturnReference.is)
    c.of_returned_reference.ensures

pub returns-in-GetStatic : goal.returns-in-GetStatic
returns-in-GetStatic c =
    let m = method_view c.args.method.now in
    by_rule_at_once (typing_rule m (act_view c.args.act.now)) _ (types_view c.of_nothing.result)
    (ap (λ a. typing_rule m (act_view a)) c.in-GetStatic.is)
    (c.of_nothing.ensures ∙ nothing_static (field_at m.constant_pool c.in-GetStatic.index))

pub returns-in-LoadConstant : goal.returns-in-LoadConstant
returns-in-LoadConstant c =
    let m = method_view c.args.method.now in
    by_rule_at_once (typing_rule m (act_view c.args.act.now)) _ (types_view c.of_nothing-in-LoadConstant.result)
    (ap (λ a. typing_rule m (act_view a)) c.in-LoadConstant.is)
    (c.of_nothing-in-LoadConstant.ensures ∙ nothing_loaded m (dynamic_type_at m.constant_pool c.in-LoadConstant.index) (constant_at m.constant_pool c.in-LoadConstant.index))

pub returns-in-LoadWideConstant : goal.returns-in-LoadWideConstant
returns-in-LoadWideConstant c =
    let m = method_view c.args.method.now in
    by_rule_at_once (typing_rule m (act_view c.args.act.now)) _ (types_view c.of_nothing-in-LoadWideConstant.result)
    (ap (λ a. typing_rule m (act_view a)) c.in-LoadWideConstant.is)
    (c.of_nothing-in-LoadWideConstant.ensures ∙ nothing_loaded_wide m (dynamic_type_at m.constant_pool c.in-LoadWideConstant.index) (constant_at m.constant_pool c.in-LoadWideConstant.index))

pub returns-in-New : goal.returns-in-New
returns-in-New c =
    let m = method_view c.args.method.now in
    by_rule_at_once (typing_rule m (act_view c.args.act.now)) _ (types_view c.of_nothing-in-New.result)
    (ap (λ a. typing_rule m (act_view a)) c.in-New.is)
    (c.of_nothing-in-New.ensures ∙ nothing_made (class_at m.constant_pool c.in-New.index))

pub returns-in-ReturnVoid : goal.returns-in-ReturnVoid
returns-in-ReturnVoid c =
    let m = method_view c.args.method.now in
    by_rule_at_once (typing_rule m (act_view c.args.act.now)) _ (types_view c.of_nothing-in-ReturnVoid.result)
    (ap (λ a. typing_rule m (act_view a)) c.in-ReturnVoid.is)
    (c.of_nothing-in-ReturnVoid.ensures ∙ nothing_returned m.type.result)

pub returns-in-Load : goal.returns-in-Load
returns-in-Load c =
    let m = method_view c.args.method.now in
    by_rule_at_once (typing_rule m (act_view c.args.act.now)) _ (types_view c.reads.result)
    (ap (λ a. typing_rule m (act_view a)) c.in-Load.is)
    (c.reads.ensures ∙ ap (λ w. of_local c.in-Load.local w (number c.in-Load.kind)) c.units.ensures)

pub returns-in-NewArray : goal.returns-in-NewArray
returns-in-NewArray c =
    let m = method_view c.args.method.now in
    by_rule (typing_rule m (act_view c.args.act.now)) _ c.of_new_array.result
    (ap (λ a. typing_rule m (act_view a)) c.in-NewArray.is)
    c.of_new_array.ensures

pub returns-in-Numeric : goal.returns-in-Numeric
returns-in-Numeric c =
    let m = method_view c.args.method.now in
    by_rule (typing_rule m (act_view c.args.act.now)) _ c.of_numbers.result
    (ap (λ a. typing_rule m (act_view a)) c.in-Numeric.is)
    c.of_numbers.ensures
