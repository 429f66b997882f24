use Rattle.std.specs.Prelude.{not}
use Rattle.std.proofs.Common.{◌∙◌, refl, sym, ap, subst}
use Rattle.std.proofs.Math.Bool.{beq}
use Rattle.pool.specs.ConstantMeanings.{constant_at, dynamic_type_at}
use Rattle.frames.specs.Slots.{is_wide}
use Rattle.type_numbers.specs.Constants.{loaded_at}
use Rattle.type_numbers.specs.Decoding.{type_by}
use Rattle.type_numbers.specs.Numbers.{IsNumberOf}
use Rattle.type_numbers.proofs.Decoded.{number_read}
use Rattle.rules.specs.Bodies.{method_view}
use Rattle.rules.specs.TypingRules.{gives}
use Rattle.rules.specs.declared.reason.Reason.TheVariants.{WrongConstant}
use Rattle.rules.proofs.Settling.{by_typing_rule}
use Rattle.numbered_rules.specs.RunningFrame.{held}
use Rattle.numbered_rules.specs.private.ConstantLoads.{units_by, load_by, load_computed}
use Rattle.numbered_rules.proofs.Judging.{refused}
use Rattle.numbered_rules.proofs.Loading.{loads_alike, loads_unlike, loads_other}
use Rattle.numbered_rules.proofs.Naming.{number_given, none_numbered, typed}
use Rattle.numbered_rules.proofs.constant_loads.loads_constant.Goals as goal

pub returns-in_default-clause-done : goal.returns-in_default-clause-done
returns-in_default-clause-done g c = λ at.
    let s = c.args.frames.now.types in
    let m = method_view c.args.method.now in
    let w = c.args.wide in
    let o = constant_at m.constant_pool c.args.index in
    let t = dynamic_type_at m.constant_pool c.args.index in
    let l = loaded_at m.constant_pool c.args.index in
    let none = none_numbered s l (subst (λ k. IsNumberOf s k l) c.in_default.is (c.loaded_at.ensures s m.constant_pool c.requires.table)) in
    by_typing_rule m at (load_by w m t o) (load_computed m (units_by w) t o) s.classes (held c.args.frames.now) (held c.loads_computed.new.frames) c.loads_computed.result
    (loads_other m t w o none) (c.loads_computed.ensures.done at)

pub gives-requires : goal.gives-requires
gives-requires g c =
    let s = c.args.frames.now.types in
    let m = method_view c.args.method.now in
    number_given s c.in-Some.number (loaded_at m.constant_pool c.args.index) (c.in-Some.ensures s m.constant_pool c.requires.table)

pub returns-then-is_wide-wide-clause-done : goal.returns-then-is_wide-wide-clause-done
returns-then-is_wide-wide-clause-done g c = λ at.
    let s = c.args.frames.now.types in
    let m = method_view c.args.method.now in
    let f = held c.args.frames.now in
    let n = c.in-Some.number in
    let w = c.args.wide in
    let o = constant_at m.constant_pool c.args.index in
    let t = dynamic_type_at m.constant_pool c.args.index in
    let x = typed s n (loaded_at m.constant_pool c.args.index) (c.in-Some.ensures s m.constant_pool c.requires.table) in
    let told = ap is_wide (sym (number_read s n x.type x.number)) ∙ sym (c.is_wide.ensures s) in
    refused m at (load_by w m t o) 66 WrongConstant s.classes f f (loads_unlike m t w o x.type x.is (ap (λ a. not (beq a w)) told ∙ c.if-is_wide-wide.true)) refl

pub returns-clause-done : goal.returns-clause-done
returns-clause-done g c = λ at.
    let s = c.args.frames.now.types in
    let m = method_view c.args.method.now in
    let n = c.in-Some.number in
    let w = c.args.wide in
    let o = constant_at m.constant_pool c.args.index in
    let t = dynamic_type_at m.constant_pool c.args.index in
    let x = typed s n (loaded_at m.constant_pool c.args.index) (c.in-Some.ensures s m.constant_pool c.requires.table) in
    let told = ap is_wide (sym (number_read s n x.type x.number)) ∙ sym (c.is_wide.ensures s) in
    by_typing_rule m at (load_by w m t o) (gives (type_by s n)) s.classes (held c.args.frames.now) (held c.gives.new.frames) c.gives.result
    (loads_alike m t w o x.type x.is (ap (λ a. not (beq a w)) told ∙ c.if-is_wide-wide.false) ∙ ap gives (sym (number_read s n x.type x.number))) c.gives.ensures.done
