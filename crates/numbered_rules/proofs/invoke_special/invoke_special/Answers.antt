use Rattle.std.proofs.Common.{◌≡◌, ◌∙◌, true, false, refl, sym, ap, subst}
use Rattle.std.proofs.lemmas.Bool.{cond-true, cond-false}
use Rattle.pool.specs.ConstantMeanings.{method_at}
use Rattle.type_numbers.specs.Constants.{arguments_of}
use Rattle.rules.specs.Bodies.{method_view}
use Rattle.rules.specs.Constants.{is_init_name, special_call, invoke_special, constructor_call}
use Rattle.rules.specs.declared.reason.Reason.TheVariants.{WrongConstant}
use Rattle.rules.proofs.Settling.{by_typing_rule}
use Rattle.numbered_rules.specs.RunningFrame.{held}
use Rattle.numbered_rules.specs.private.Named.{IsMethodOf}
use Rattle.numbered_rules.proofs.Judging.{refused}
use Rattle.numbered_rules.proofs.Naming.{names_method, names_no_method}
use Rattle.numbered_rules.proofs.invoke_special.invoke_special.Goals as goal

pub returns-in_default-clause-done : goal.returns-in_default-clause-done
returns-in_default-clause-done g c = λ at.
    let s = c.args.frames.now.types in
    let m = method_view c.args.body.now.method.now in
    let f = held c.args.frames.now in
    let o = method_at m.constant_pool c.args.index in
    let row = arguments_of c.args.body.now.numbers.table.now in
    refused m at (invoke_special m.major_version m.class o) 66 WrongConstant s.classes f f
    (ap (invoke_special m.major_version m.class) (names_no_method s row o (subst (λ k. IsMethodOf s row k o) c.in_default.is (c.method_at.ensures s m.constant_pool c.requires.table)))) refl

pub invoke_constructor-requires-clause-called : goal.invoke_constructor-requires-clause-called
invoke_constructor-requires-clause-called g c =
    let s = c.args.frames.now.types in
    let m = method_view c.args.body.now.method.now in
    let o = method_at m.constant_pool c.args.index in
    let x = names_method s (arguments_of c.args.body.now.numbers.table.now) c.in-Some.called o (c.in-Some.ensures s m.constant_pool c.requires.table) in
    (x.method, x.parts)

pub returns-then-called-clause-done : goal.returns-then-called-clause-done
returns-then-called-clause-done g c = λ at.
    let s = c.args.frames.now.types in
    let m = method_view c.args.body.now.method.now in
    let f = held c.args.frames.now in
    let o = method_at m.constant_pool c.args.index in
    let x = names_method s (arguments_of c.args.body.now.numbers.table.now) c.in-Some.called o (c.in-Some.ensures s m.constant_pool c.requires.table) in
    let k = x.method in
    let init : is_init_name k ≡ true = sym x.parts.init ∙ c.if-called.true in
    by_typing_rule m at (invoke_special m.major_version m.class o) (constructor_call k k.class) s.classes f (held c.invoke_constructor.new.frames) c.invoke_constructor.result
    (ap (invoke_special m.major_version m.class) x.is ∙ cond-true (is_init_name k) (constructor_call k k.class) (special_call m.major_version m.class k) init)
    (c.invoke_constructor.ensures.done at k x.parts)

pub call_special-requires-clause-called : goal.call_special-requires-clause-called
call_special-requires-clause-called g c =
    let s = c.args.frames.now.types in
    let m = method_view c.args.body.now.method.now in
    let o = method_at m.constant_pool c.args.index in
    let x = names_method s (arguments_of c.args.body.now.numbers.table.now) c.in-Some.called o (c.in-Some.ensures s m.constant_pool c.requires.table) in
    (x.method, x.parts)

pub returns-else-called-clause-done : goal.returns-else-called-clause-done
returns-else-called-clause-done g c = λ at.
    let s = c.args.frames.now.types in
    let m = method_view c.args.body.now.method.now in
    let f = held c.args.frames.now in
    let o = method_at m.constant_pool c.args.index in
    let x = names_method s (arguments_of c.args.body.now.numbers.table.now) c.in-Some.called o (c.in-Some.ensures s m.constant_pool c.requires.table) in
    let k = x.method in
    let other : is_init_name k ≡ false = sym x.parts.init ∙ c.if-called.false in
    by_typing_rule m at (invoke_special m.major_version m.class o) (special_call m.major_version m.class k) s.classes f (held c.call_special.new.frames) c.call_special.result
    (ap (invoke_special m.major_version m.class) x.is ∙ cond-false (is_init_name k) (constructor_call k k.class) (special_call m.major_version m.class k) other)
    (c.call_special.ensures.done at k x.parts)
