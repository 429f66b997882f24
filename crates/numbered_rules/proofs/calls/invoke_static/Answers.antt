use Rattle.std.specs.Prelude.{not}
use Rattle.std.proofs.Common.{◌∙◌, refl, sym, ap, subst, None, ◌&&◌}
use Rattle.names.specs.ReferenceTypes.{is_class_type}
use Rattle.pool.specs.ConstantMeanings.{method_at}
use Rattle.type_numbers.specs.Constants.{arguments_of}
use Rattle.rules.specs.Bodies.{method_view}
use Rattle.rules.specs.Constants.{invoke_static, is_init_name, may_name, static_call}
use Rattle.rules.specs.declared.reason.Reason.TheVariants.{WrongConstant}
use Rattle.rules.proofs.Settling.{by_allowed}
use Rattle.numbered_rules.specs.RunningFrame.{held}
use Rattle.numbered_rules.specs.private.Named.{IsMethodOf}
use Rattle.numbered_rules.proofs.Judging.{refused, not_allowed}
use Rattle.numbered_rules.proofs.Naming.{names_method, names_no_method}
use Rattle.numbered_rules.proofs.calls.invoke_static.Goals as goal

pub returns-in_default-clause-done : goal.returns-in_default-clause-done
returns-in_default-clause-done g c = λ at.
    let s = c.args.frames.now.types in
    let m = method_view c.args.method.now in
    let f = held c.args.frames.now in
    let o = method_at m.constant_pool c.args.index in
    let row = arguments_of c.args.table.now in
    refused m at (invoke_static m.major_version o) 66 WrongConstant s.classes f f (ap (invoke_static m.major_version) (names_no_method s row o (subst (λ k. IsMethodOf s row k o) c.in_default.is (c.method_at.ensures s m.constant_pool c.requires)))) refl

pub calls-requires-clause-types : goal.calls-requires-clause-types
calls-requires-clause-types g c =
    let s = c.args.frames.now.types in
    let m = method_view c.args.method.now in
    let o = method_at m.constant_pool c.args.index in
    let row = arguments_of c.args.table.now in
    let x = names_method s row c.in-Some.called o (c.in-Some.ensures s m.constant_pool c.requires) in
    (x.method.type, x.parts.types)

pub returns-then-may_invoke_static-clause-done : goal.returns-then-may_invoke_static-clause-done
returns-then-may_invoke_static-clause-done g c = λ at.
    let s = c.args.frames.now.types in
    let m = method_view c.args.method.now in
    let f = held c.args.frames.now in
    let o = method_at m.constant_pool c.args.index in
    let row = arguments_of c.args.table.now in
    let x = names_method s row c.in-Some.called o (c.in-Some.ensures s m.constant_pool c.requires) in
    let allowed = sym (c.may_invoke_static.ensures s row x.method x.parts) ∙ c.if-may_invoke_static.true in
    by_allowed m at (invoke_static m.major_version o) (is_class_type x.method.class && (not (is_init_name x.method) && may_name m.major_version x.method.interface)) (static_call x.method) s.classes f (held c.calls.new.frames) c.calls.result (ap (invoke_static m.major_version) x.is) allowed (c.calls.ensures.done at x.method.type None x.parts.types tt)

pub returns-else-may_invoke_static-clause-done : goal.returns-else-may_invoke_static-clause-done
returns-else-may_invoke_static-clause-done g c = λ at.
    let s = c.args.frames.now.types in
    let m = method_view c.args.method.now in
    let f = held c.args.frames.now in
    let o = method_at m.constant_pool c.args.index in
    let row = arguments_of c.args.table.now in
    let x = names_method s row c.in-Some.called o (c.in-Some.ensures s m.constant_pool c.requires) in
    let refusal = sym (c.may_invoke_static.ensures s row x.method x.parts) ∙ c.if-may_invoke_static.false in
    not_allowed m at (invoke_static m.major_version o) (is_class_type x.method.class && (not (is_init_name x.method) && may_name m.major_version x.method.interface)) (static_call x.method) s.classes f f (ap (invoke_static m.major_version) x.is) refusal
