use Rattle.std.proofs.Common.{[], ◌∷◌, refl, ap}
use Rattle.std.proofs.lemmas.List.Elements.{All-nil, All-cons}
use Rattle.pool.specs.ConstantMeanings.{field_at}
use Rattle.frames.specs.Slots.{descriptor_type}
use Rattle.rules.specs.Bodies.{method_view}
use Rattle.rules.specs.Constants.{put_static}
use Rattle.rules.specs.TypingRules.{takes, expected_of}
use Rattle.rules.specs.declared.reason.Reason.TheVariants.{WrongConstant}
use Rattle.rules.proofs.Settling.{by_typing_rule}
use Rattle.numbered_rules.specs.Expected.{IsExpected}
use Rattle.numbered_rules.specs.RunningFrame.{held}
use Rattle.numbered_rules.specs.declared.expected.Expected.TheVariants.{Assignable}
use Rattle.numbered_rules.proofs.Judging.{refused}
use Rattle.numbered_rules.proofs.Naming.{names_field, names_no_field}
use Rattle.numbered_rules.proofs.Standing.{descriptor_stands}
use Rattle.numbered_rules.proofs.fields.put_static.Goals as goal

pub returns-in-None-clause-done : goal.returns-in-None-clause-done
returns-in-None-clause-done g c = λ at.
    let s = c.args.frames.now.types in
    let m = method_view c.args.method.now in
    let f = held c.args.frames.now in
    let o = field_at m.constant_pool c.args.index in
    refused m at (put_static o) 66 WrongConstant s.classes f f (ap (put_static) (names_no_field s o (c.in-None.ensures s m.constant_pool c.requires))) refl

pub pops-requires-clause-asked : goal.pops-requires-clause-asked
pops-requires-clause-asked g c =
    let s = c.args.frames.now.types in
    let m = method_view c.args.method.now in
    let o = field_at m.constant_pool c.args.index in
    let x = names_field s c.in-Some.field o (c.in-Some.ensures s m.constant_pool c.requires) in
    All-cons (IsExpected s) (Assignable c.in-Some.field.held) [] (descriptor_type x.field.type, x.parts.held) (All-nil (IsExpected s))

pub returns-in-Some-clause-done : goal.returns-in-Some-clause-done
returns-in-Some-clause-done g c = λ at.
    let s = c.args.frames.now.types in
    let m = method_view c.args.method.now in
    let f = held c.args.frames.now in
    let o = field_at m.constant_pool c.args.index in
    let x = names_field s c.in-Some.field o (c.in-Some.ensures s m.constant_pool c.requires) in
    let ws = expected_of x.field.type ∷ [] in
    by_typing_rule m at (put_static o) (takes ws) s.classes f (held c.pops.new.frames) c.pops.result
    (ap put_static x.is) (c.pops.ensures.done ws (descriptor_stands s c.in-Some.field.held x.field.type x.parts.held, tt))
