use Rattle.std.proofs.Common.{◌≡◌, ◌∙◌, true, option_map, refl, sym, ap, subst, nat_eq}
use Rattle.std.proofs.lemmas.Bool.{cond-false}
use Rattle.names.specs.Descriptors.{field_width}
use Rattle.frames.specs.Slots.{descriptor_type, is_wide}
use Rattle.type_numbers.specs.Decoding.{type_by}
use Rattle.type_numbers.specs.Numbers.{IsNumberOf}
use Rattle.type_numbers.proofs.Decoded.{number_read}
use Rattle.rules.specs.Bodies.{method_view}
use Rattle.rules.specs.Constants.{load_dynamic}
use Rattle.rules.specs.TypingRules.{gives, where_bootstrapped, refuses}
use Rattle.rules.specs.declared.reason.Reason.TheVariants.{BadBootstrap}
use Rattle.rules.proofs.Settling.{by_typing_rule, by_allowed, by_bootstrapped}
use Rattle.numbered_rules.specs.RunningFrame.{held}
use Rattle.numbered_rules.specs.private.ConstantLoads.{units_by}
use Rattle.numbered_rules.proofs.Judging.{refused, not_allowed}
use Rattle.numbered_rules.proofs.Loading.{width_by, units_differ, units_same}
use Rattle.numbered_rules.proofs.Naming.{number_named, number_given}
use Rattle.numbered_rules.proofs.constant_loads.gives_computed.Goals as goal

pub returns-then-is_wide-wide-clause-done : goal.returns-then-is_wide-wide-clause-done
returns-then-is_wide-wide-clause-done g c = λ at t h.
    let s = c.args.frames.now.types in
    let m = method_view c.args.method.now in
    let f = held c.args.frames.now in
    let n = c.in-Some.number in
    let x = number_named s descriptor_type n t (subst (λ k. IsNumberOf s k (option_map descriptor_type t)) c.in-Some.is h) in
    let u = units_by c.args.wide in
    let b = c.args.bootstrapped in
    let q = where_bootstrapped b (gives (descriptor_type x.value)) in
    let width : field_width x.value ≡ units_by c.is_wide.result = width_by x.value ∙ ap units_by (ap is_wide (sym (number_read s n (descriptor_type x.value) x.number)) ∙ sym (c.is_wide.ensures s)) in
    not_allowed m at (load_dynamic u b t) (nat_eq (field_width x.value) u) q s.classes f f (ap (load_dynamic u b) x.is) (ap (λ k. nat_eq k u) width ∙ units_differ c.is_wide.result c.args.wide c.if-is_wide-wide.true)

pub gives-requires : goal.gives-requires
gives-requires g c =
    let s = c.args.frames.now.types in
    let t = c.requires.0 in
    number_given s c.in-Some.number (option_map descriptor_type t) (subst (λ k. IsNumberOf s k (option_map descriptor_type t)) c.in-Some.is c.requires.1)

pub returns-then-bootstrapped-clause-done : goal.returns-then-bootstrapped-clause-done
returns-then-bootstrapped-clause-done g c = λ at t h.
    let s = c.args.frames.now.types in
    let m = method_view c.args.method.now in
    let f = held c.args.frames.now in
    let n = c.in-Some.number in
    let x = number_named s descriptor_type n t (subst (λ k. IsNumberOf s k (option_map descriptor_type t)) c.in-Some.is h) in
    let u = units_by c.args.wide in
    let b = c.args.bootstrapped in
    let q = where_bootstrapped b (gives (descriptor_type x.value)) in
    let width : field_width x.value ≡ units_by c.is_wide.result = width_by x.value ∙ ap units_by (ap is_wide (sym (number_read s n (descriptor_type x.value) x.number)) ∙ sym (c.is_wide.ensures s)) in
    let allowed : nat_eq (field_width x.value) u ≡ true = ap (λ k. nat_eq k u) width ∙ units_same c.is_wide.result c.args.wide c.if-is_wide-wide.false in
    by_allowed m at (load_dynamic u b t) (nat_eq (field_width x.value) u) q s.classes f (held c.gives.new.frames) c.gives.result (ap (load_dynamic u b) x.is) allowed
    (by_bootstrapped m at q b (gives (descriptor_type x.value)) s.classes f (held c.gives.new.frames) c.gives.result refl c.if-bootstrapped.true
    (by_typing_rule m at (gives (descriptor_type x.value)) (gives (type_by s n)) s.classes f (held c.gives.new.frames) c.gives.result (ap gives (sym (number_read s n (descriptor_type x.value) x.number))) c.gives.ensures.done))

pub returns-else-bootstrapped-clause-done : goal.returns-else-bootstrapped-clause-done
returns-else-bootstrapped-clause-done g c = λ at t h.
    let s = c.args.frames.now.types in
    let m = method_view c.args.method.now in
    let f = held c.args.frames.now in
    let n = c.in-Some.number in
    let x = number_named s descriptor_type n t (subst (λ k. IsNumberOf s k (option_map descriptor_type t)) c.in-Some.is h) in
    let u = units_by c.args.wide in
    let b = c.args.bootstrapped in
    let q = where_bootstrapped b (gives (descriptor_type x.value)) in
    let width : field_width x.value ≡ units_by c.is_wide.result = width_by x.value ∙ ap units_by (ap is_wide (sym (number_read s n (descriptor_type x.value) x.number)) ∙ sym (c.is_wide.ensures s)) in
    let allowed : nat_eq (field_width x.value) u ≡ true = ap (λ k. nat_eq k u) width ∙ units_same c.is_wide.result c.args.wide c.if-is_wide-wide.false in
    by_allowed m at (load_dynamic u b t) (nat_eq (field_width x.value) u) q s.classes f f _ (ap (load_dynamic u b) x.is) allowed
    (refused m at q 90 BadBootstrap s.classes f f (cond-false b (gives (descriptor_type x.value)) (refuses 90) c.if-bootstrapped.false) refl)
