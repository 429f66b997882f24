use Rattle.std.proofs.Common.{◌∙◌, [], ◌∷◌, refl, sym, ◌&&◌}
use Rattle.names.specs.ReferenceTypes.{is_class_type}
use Rattle.type_numbers.specs.Constants.{arguments_of}
use Rattle.rules.specs.Bodies.{method_view}
use Rattle.rules.specs.Constants.{may_name, has_room_for_receiver, special_call}
use Rattle.rules.specs.TypingRules.{expected_class, arguments_on, result_types, calls_special}
use Rattle.rules.proofs.Settling.{by_allowed}
use Rattle.numbered_rules.specs.RunningFrame.{held}
use Rattle.numbered_rules.proofs.Judging.{not_allowed}
use Rattle.numbered_rules.proofs.invoke_special.call_special.Goals as goal

pub returns-then-may_call_special-clause-done : goal.returns-then-may_call_special-clause-done
returns-then-may_call_special-clause-done g c = λ at k h.
    let s = c.args.frames.now.types in
    let m = method_view c.args.method.now in
    let f = held c.args.frames.now in
    let row = arguments_of c.args.table.now in
    let allowed = sym (c.may_call_special.ensures s row k h) ∙ c.if-may_call_special.true in
    by_allowed m at (special_call m.major_version m.class k) (is_class_type k.class && (has_room_for_receiver k && may_name m.major_version k.interface))
    (calls_special k.class (arguments_on k.type.params (expected_class m.class ∷ [])) (result_types k.type.result)) s.classes f (held c.calls_special.new.frames) c.calls_special.result
    refl allowed (c.calls_special.ensures.done at k h)

pub returns-else-may_call_special-clause-done : goal.returns-else-may_call_special-clause-done
returns-else-may_call_special-clause-done g c = λ at k h.
    let s = c.args.frames.now.types in
    let m = method_view c.args.method.now in
    let f = held c.args.frames.now in
    let row = arguments_of c.args.table.now in
    let refusal = sym (c.may_call_special.ensures s row k h) ∙ c.if-may_call_special.false in
    not_allowed m at (special_call m.major_version m.class k) (is_class_type k.class && (has_room_for_receiver k && may_name m.major_version k.interface)) _ s.classes f f refl refusal
