use Rattle.std.proofs.Common.{◌∙◌, refl, sym, ap}
use Rattle.pool.specs.ConstantMeanings.{field_at}
use Rattle.frames.specs.Slots.{descriptor_type}
use Rattle.type_numbers.specs.Decoding.{type_by}
use Rattle.type_numbers.proofs.Decoded.{number_read}
use Rattle.rules.specs.Bodies.{method_view}
use Rattle.rules.specs.Constants.{get_static}
use Rattle.rules.specs.TypingRules.{gives}
use Rattle.rules.specs.declared.reason.Reason.TheVariants.{WrongConstant}
use Rattle.rules.proofs.Settling.{by_typing_rule}
use Rattle.numbered_rules.specs.RunningFrame.{held}
use Rattle.numbered_rules.proofs.Judging.{refused}
use Rattle.numbered_rules.proofs.Naming.{names_field, names_no_field}
use Rattle.numbered_rules.proofs.fields.get_static.Goals as goal

pub returns-in-None-clause-done : goal.returns-in-None-clause-done
returns-in-None-clause-done g c = λ at.
    let s = c.args.frames.now.types in
    let m = method_view c.args.method.now in
    let f = held c.args.frames.now in
    let o = field_at m.constant_pool c.args.index in
    refused m at (get_static o) 66 WrongConstant s.classes f f (ap (get_static) (names_no_field s o (c.in-None.ensures s m.constant_pool c.requires))) refl

pub gives-requires : goal.gives-requires
gives-requires g c =
    let s = c.args.frames.now.types in
    let m = method_view c.args.method.now in
    let o = field_at m.constant_pool c.args.index in
    let x = names_field s c.in-Some.field o (c.in-Some.ensures s m.constant_pool c.requires) in
    (descriptor_type x.field.type, x.parts.held)

pub returns-in-Some-clause-done : goal.returns-in-Some-clause-done
returns-in-Some-clause-done g c = λ at.
    let s = c.args.frames.now.types in
    let m = method_view c.args.method.now in
    let f = held c.args.frames.now in
    let o = field_at m.constant_pool c.args.index in
    let x = names_field s c.in-Some.field o (c.in-Some.ensures s m.constant_pool c.requires) in
    let n = c.in-Some.field.held in
    by_typing_rule m at (get_static o) (gives (type_by s n)) s.classes f (held c.gives.new.frames) c.gives.result
    (ap get_static x.is ∙ ap gives (sym (number_read s n (descriptor_type x.field.type) x.parts.held))) c.gives.ensures.done
