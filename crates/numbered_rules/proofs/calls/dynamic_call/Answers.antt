use Rattle.std.specs.Prelude.{not}
use Rattle.std.proofs.Common.{◌≡◌, ◌∙◌, true, false, refl, sym, ap, subst, None}
use Rattle.std.proofs.lemmas.Bool.{cond-false}
use Rattle.pool.specs.ConstantMeanings.{call_site_at}
use Rattle.type_numbers.specs.Constants.{arguments_of}
use Rattle.rules.specs.Bodies.{method_view}
use Rattle.rules.specs.Constants.{dynamic_call, is_special_name}
use Rattle.rules.specs.TypingRules.{call_of, where_bootstrapped, refuses}
use Rattle.rules.specs.declared.reason.Reason.TheVariants.{WrongConstant, BadBootstrap}
use Rattle.rules.proofs.Settling.{by_allowed, by_bootstrapped}
use Rattle.numbered_rules.specs.RunningFrame.{held}
use Rattle.numbered_rules.specs.private.Named.{IsSiteOf}
use Rattle.numbered_rules.proofs.Judging.{refused, not_allowed}
use Rattle.numbered_rules.proofs.Naming.{names_site, names_no_site}
use Rattle.numbered_rules.proofs.calls.dynamic_call.Goals as goal

pub returns-in_default-clause-done : goal.returns-in_default-clause-done
returns-in_default-clause-done g c = λ at.
    let s = c.args.frames.now.types in
    let m = method_view c.args.method.now in
    let f = held c.args.frames.now in
    let o = call_site_at m.constant_pool c.args.index in
    let row = arguments_of c.args.table.now in
    refused m at (dynamic_call c.args.bootstrapped o) 66 WrongConstant s.classes f f
    (ap (dynamic_call c.args.bootstrapped) (names_no_site s row o (subst (λ k. IsSiteOf s row k o) c.in_default.is (c.site_at.ensures s m.constant_pool c.requires)))) refl

pub returns-then-site-clause-done : goal.returns-then-site-clause-done
returns-then-site-clause-done g c = λ at.
    let s = c.args.frames.now.types in
    let m = method_view c.args.method.now in
    let f = held c.args.frames.now in
    let o = call_site_at m.constant_pool c.args.index in
    let row = arguments_of c.args.table.now in
    let x = names_site s row c.in-Some.site o (c.in-Some.ensures s m.constant_pool c.requires) in
    let b = c.args.bootstrapped in
    let q = where_bootstrapped b (call_of x.site.type) in
    let special : is_special_name x.site ≡ true = sym x.parts.special ∙ c.if-site.true in
    not_allowed m at (dynamic_call b o) (not (is_special_name x.site)) q s.classes f f (ap (dynamic_call b) x.is) (ap not special)

pub calls-requires-clause-types : goal.calls-requires-clause-types
calls-requires-clause-types g c =
    let s = c.args.frames.now.types in
    let m = method_view c.args.method.now in
    let o = call_site_at m.constant_pool c.args.index in
    let row = arguments_of c.args.table.now in
    let x = names_site s row c.in-Some.site o (c.in-Some.ensures s m.constant_pool c.requires) in
    (x.site.type, x.parts.types)

pub returns-then-bootstrapped-clause-done : goal.returns-then-bootstrapped-clause-done
returns-then-bootstrapped-clause-done g c = λ at.
    let s = c.args.frames.now.types in
    let m = method_view c.args.method.now in
    let f = held c.args.frames.now in
    let o = call_site_at m.constant_pool c.args.index in
    let row = arguments_of c.args.table.now in
    let x = names_site s row c.in-Some.site o (c.in-Some.ensures s m.constant_pool c.requires) in
    let b = c.args.bootstrapped in
    let q = where_bootstrapped b (call_of x.site.type) in
    let named : is_special_name x.site ≡ false = sym x.parts.special ∙ c.if-site.false in
    by_allowed m at (dynamic_call b o) (not (is_special_name x.site)) q s.classes f (held c.calls.new.frames) c.calls.result (ap (dynamic_call b) x.is) (ap not named)
    (by_bootstrapped m at q b (call_of x.site.type) s.classes f (held c.calls.new.frames) c.calls.result refl c.if-bootstrapped.true (c.calls.ensures.done at x.site.type None x.parts.types tt))

pub returns-else-bootstrapped-clause-done : goal.returns-else-bootstrapped-clause-done
returns-else-bootstrapped-clause-done g c = λ at.
    let s = c.args.frames.now.types in
    let m = method_view c.args.method.now in
    let f = held c.args.frames.now in
    let o = call_site_at m.constant_pool c.args.index in
    let row = arguments_of c.args.table.now in
    let x = names_site s row c.in-Some.site o (c.in-Some.ensures s m.constant_pool c.requires) in
    let b = c.args.bootstrapped in
    let q = where_bootstrapped b (call_of x.site.type) in
    let named : is_special_name x.site ≡ false = sym x.parts.special ∙ c.if-site.false in
    by_allowed m at (dynamic_call b o) (not (is_special_name x.site)) q s.classes f f _ (ap (dynamic_call b) x.is) (ap not named)
    (refused m at q 90 BadBootstrap s.classes f f (cond-false b (call_of x.site.type) (refuses 90) c.if-bootstrapped.false) refl)
