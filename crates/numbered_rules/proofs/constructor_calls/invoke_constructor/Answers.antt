use Rattle.std.specs.Prelude.{not}
use Rattle.std.proofs.Common.{◌∙◌, [], ◌&&◌, refl, sym, ap}
use Rattle.type_numbers.specs.Constants.{arguments_of}
use Rattle.names.specs.ReferenceTypes.{is_class_type}
use Rattle.rules.specs.Bodies.{method_view}
use Rattle.rules.specs.Constants.{constructor_call, has_room_for_receiver}
use Rattle.rules.specs.TypingRules.{arguments_on, constructs}
use Rattle.rules.specs.declared.reason.Reason.TheVariants.{WrongConstant}
use Rattle.rules.proofs.Settling.{by_allowed}
use Rattle.numbered_rules.specs.RunningFrame.{held}
use Rattle.numbered_rules.proofs.Judging.{refused}
use Rattle.numbered_rules.proofs.NamedClasses.{names_constructor, no_constructor}
use Rattle.numbered_rules.proofs.constructor_calls.invoke_constructor.Goals as goal

pub constructs-requires-clause-called : goal.constructs-requires-clause-called
constructs-requires-clause-called g c =
    let k = c.requires.called.0 in
    let b = not k.interface && has_room_for_receiver k in
    let x = names_constructor b k.class (sym (c.may_name_constructor.ensures c.args.frames.now.types (arguments_of c.args.body.now.numbers.table.now) k c.requires.called.1) ∙ c.if-may_name_constructor.true) in
    (k, c.requires.called.1, ap is_class_type x.is)

pub returns-then-may_name_constructor-clause-done : goal.returns-then-may_name_constructor-clause-done
returns-then-may_name_constructor-clause-done g c = λ at k h.
    let s = c.args.frames.now.types in
    let m = method_view c.args.body.now.method.now in
    let b = not k.interface && has_room_for_receiver k in
    let x = names_constructor b k.class (sym (c.may_name_constructor.ensures s (arguments_of c.args.body.now.numbers.table.now) k h) ∙ c.if-may_name_constructor.true) in
    by_allowed m at (constructor_call k k.class) b (constructs x.name (arguments_on k.type.params [])) s.classes (held c.args.frames.now) (held c.constructs.new.frames) c.constructs.result
    (ap (constructor_call k) x.is) x.allowed (c.constructs.ensures.done at k x.name h x.is)

pub returns-else-may_name_constructor-clause-done : goal.returns-else-may_name_constructor-clause-done
returns-else-may_name_constructor-clause-done g c = λ at k h.
    let s = c.args.frames.now.types in
    let m = method_view c.args.body.now.method.now in
    let f = held c.args.frames.now in
    refused m at (constructor_call k k.class) 66 WrongConstant s.classes f f
    (no_constructor k k.class (sym (c.may_name_constructor.ensures s (arguments_of c.args.body.now.numbers.table.now) k h) ∙ c.if-may_name_constructor.false)) refl
