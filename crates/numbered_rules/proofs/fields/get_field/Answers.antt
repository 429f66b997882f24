use Rattle.std.proofs.Common.{◌∙◌, true, [], ◌∷◌, refl, sym, ap}
use Rattle.std.proofs.lemmas.List.Elements.{All-nil, All-cons}
use Rattle.names.specs.ReferenceTypes.{class_type}
use Rattle.pool.specs.ConstantMeanings.{field_at}
use Rattle.frames.specs.Slots.{descriptor_type}
use Rattle.frames.specs.VerificationType.{class}
use Rattle.type_numbers.specs.Decoding.{type_by}
use Rattle.type_numbers.proofs.Decoded.{number_read}
use Rattle.rules.specs.Bodies.{method_view}
use Rattle.rules.specs.Constants.{get_field}
use Rattle.rules.specs.TypingRules.{pops, expected_class}
use Rattle.rules.specs.declared.reason.Reason.TheVariants.{WrongConstant}
use Rattle.rules.proofs.Settling.{by_typing_rule}
use Rattle.numbered_rules.specs.Expected.{IsExpected}
use Rattle.numbered_rules.specs.RunningFrame.{held}
use Rattle.numbered_rules.specs.declared.expected.Expected.TheVariants.{Assignable}
use Rattle.numbered_rules.proofs.Judging.{refused}
use Rattle.numbered_rules.proofs.Naming.{names_field, names_no_field}
use Rattle.numbered_rules.proofs.Standing.{type_stands}
use Rattle.numbered_rules.proofs.fields.get_field.Goals as goal

pub returns-in-None-clause-done : goal.returns-in-None-clause-done
returns-in-None-clause-done g c = λ at.
    let s = c.args.frames.now.types in
    let m = method_view c.args.method.now in
    let f = held c.args.frames.now in
    let o = field_at m.constant_pool c.args.index in
    refused m at (get_field o) 66 WrongConstant s.classes f f (ap (get_field) (names_no_field s o (c.in-None.ensures s m.constant_pool c.requires))) refl

pub pops-requires-clause-asked : goal.pops-requires-clause-asked
pops-requires-clause-asked g c =
    let s = c.args.frames.now.types in
    let m = method_view c.args.method.now in
    let o = field_at m.constant_pool c.args.index in
    let x = names_field s c.in-Some.field o (c.in-Some.ensures s m.constant_pool c.requires) in
    All-cons (IsExpected s) (Assignable c.in-Some.field.class) [] (class x.field.class, x.parts.class) (All-nil (IsExpected s))

pub pops-requires-clause-gives : goal.pops-requires-clause-gives
pops-requires-clause-gives g c =
    let s = c.args.frames.now.types in
    let m = method_view c.args.method.now in
    let o = field_at m.constant_pool c.args.index in
    let x = names_field s c.in-Some.field o (c.in-Some.ensures s m.constant_pool c.requires) in
    (descriptor_type x.field.type, x.parts.held)

pub returns-in-Some-clause-done : goal.returns-in-Some-clause-done
returns-in-Some-clause-done g c = λ at.
    let s = c.args.frames.now.types in
    let m = method_view c.args.method.now in
    let f = held c.args.frames.now in
    let o = field_at m.constant_pool c.args.index in
    let x = names_field s c.in-Some.field o (c.in-Some.ensures s m.constant_pool c.requires) in
    let ws = expected_class x.field.class ∷ [] in
    let n = c.in-Some.field.held in
    by_typing_rule m at (get_field o) (pops ws (type_by s n ∷ []) [] true) s.classes f (held c.pops.new.frames) c.pops.result
    (ap get_field x.is ∙ ap (λ u. pops ws (u ∷ []) [] true) (sym (number_read s n (descriptor_type x.field.type) x.parts.held)))
    (c.pops.ensures.done ws (type_stands s c.in-Some.field.class (class_type x.field.class) x.parts.class, tt))
