use Rattle.std.specs.Prelude.{not}
use Rattle.std.proofs.Common.{◌∙◌, refl, sym, ap, subst, Some, ◌&&◌}
use Rattle.pool.specs.ConstantMeanings.{method_at}
use Rattle.frames.specs.Slots.{to_reference}
use Rattle.type_numbers.specs.Constants.{arguments_of}
use Rattle.rules.specs.Bodies.{method_view}
use Rattle.rules.specs.Constants.{invoke_virtual, is_init_name, has_room_for_receiver, call_on}
use Rattle.rules.specs.declared.reason.Reason.TheVariants.{WrongConstant}
use Rattle.rules.proofs.Settling.{by_allowed}
use Rattle.numbered_rules.specs.RunningFrame.{held}
use Rattle.numbered_rules.specs.private.Named.{IsMethodOf}
use Rattle.numbered_rules.proofs.Judging.{refused, not_allowed}
use Rattle.numbered_rules.proofs.Naming.{names_method, names_no_method}
use Rattle.numbered_rules.proofs.calls.invoke_virtual.Goals as goal

pub returns-in_default-clause-done : goal.returns-in_default-clause-done
returns-in_default-clause-done g c = λ at.
    let s = c.args.frames.now.types in
    let m = method_view c.args.method.now in
    let f = held c.args.frames.now in
    let o = method_at m.constant_pool c.args.index in
    let row = arguments_of c.args.table.now in
    refused m at (invoke_virtual o) 66 WrongConstant s.classes f f (ap (invoke_virtual) (names_no_method s row o (subst (λ k. IsMethodOf s row k o) c.in_default.is (c.method_at.ensures s m.constant_pool c.requires)))) refl

pub calls-requires-clause-types : goal.calls-requires-clause-types
calls-requires-clause-types g c =
    let s = c.args.frames.now.types in
    let m = method_view c.args.method.now in
    let o = method_at m.constant_pool c.args.index in
    let row = arguments_of c.args.table.now in
    let x = names_method s row c.in-Some.called o (c.in-Some.ensures s m.constant_pool c.requires) in
    (x.method.type, x.parts.types)

pub calls-requires-clause-receiver : goal.calls-requires-clause-receiver
calls-requires-clause-receiver g c =
    let s = c.args.frames.now.types in
    let m = method_view c.args.method.now in
    let o = method_at m.constant_pool c.args.index in
    let row = arguments_of c.args.table.now in
    let x = names_method s row c.in-Some.called o (c.in-Some.ensures s m.constant_pool c.requires) in
    (to_reference x.method.class, x.parts.class)

pub returns-then-may_invoke_virtual-clause-done : goal.returns-then-may_invoke_virtual-clause-done
returns-then-may_invoke_virtual-clause-done g c = λ at.
    let s = c.args.frames.now.types in
    let m = method_view c.args.method.now in
    let f = held c.args.frames.now in
    let o = method_at m.constant_pool c.args.index in
    let row = arguments_of c.args.table.now in
    let x = names_method s row c.in-Some.called o (c.in-Some.ensures s m.constant_pool c.requires) in
    let allowed = sym (c.may_invoke_virtual.ensures s row x.method x.parts) ∙ c.if-may_invoke_virtual.true in
    by_allowed m at (invoke_virtual o) (not x.method.interface && (not (is_init_name x.method) && has_room_for_receiver x.method)) (call_on x.method.class x.method) s.classes f (held c.calls.new.frames) c.calls.result (ap (invoke_virtual) x.is) allowed (c.calls.ensures.done at x.method.type (Some x.method.class) x.parts.types x.parts.class)

pub returns-else-may_invoke_virtual-clause-done : goal.returns-else-may_invoke_virtual-clause-done
returns-else-may_invoke_virtual-clause-done g c = λ at.
    let s = c.args.frames.now.types in
    let m = method_view c.args.method.now in
    let f = held c.args.frames.now in
    let o = method_at m.constant_pool c.args.index in
    let row = arguments_of c.args.table.now in
    let x = names_method s row c.in-Some.called o (c.in-Some.ensures s m.constant_pool c.requires) in
    let refusal = sym (c.may_invoke_virtual.ensures s row x.method x.parts) ∙ c.if-may_invoke_virtual.false in
    not_allowed m at (invoke_virtual o) (not x.method.interface && (not (is_init_name x.method) && has_room_for_receiver x.method)) (call_on x.method.class x.method) s.classes f f (ap (invoke_virtual) x.is) refusal
