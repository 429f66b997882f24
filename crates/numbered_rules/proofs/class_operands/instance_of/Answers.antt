use Rattle.std.proofs.Common.{true, [], ◌∷◌, refl, ap}
use Rattle.std.proofs.lemmas.List.Elements.{All-nil, All-cons}
use Rattle.names.specs.ReferenceTypes.{class_type}
use Rattle.names.specs.StandardNames.{object_name}
use Rattle.pool.specs.ConstantMeanings.{class_at}
use Rattle.frames.specs.Slots.{to_reference}
use Rattle.frames.specs.VerificationType.{int}
use Rattle.rules.specs.Bodies.{method_view}
use Rattle.rules.specs.Constants.{instance_of}
use Rattle.rules.specs.TypingRules.{pops, expected_class}
use Rattle.rules.specs.declared.reason.Reason.TheVariants.{WrongConstant}
use Rattle.rules.proofs.Settling.{by_typing_rule}
use Rattle.numbered_rules.specs.Expected.{IsExpected}
use Rattle.numbered_rules.specs.RunningFrame.{held}
use Rattle.numbered_rules.specs.declared.expected.Expected.TheVariants.{Object}
use Rattle.numbered_rules.proofs.Judging.{refused}
use Rattle.numbered_rules.proofs.Naming.{number_missing, number_named}
use Rattle.numbered_rules.proofs.Standing.{type_stands}
use Rattle.numbered_rules.proofs.class_operands.instance_of.Goals as goal

pub returns-in-None-clause-done : goal.returns-in-None-clause-done
returns-in-None-clause-done g c = λ at.
    let s = c.args.frames.now.types in
    let m = method_view c.args.method.now in
    let f = held c.args.frames.now in
    let o = class_at m.constant_pool c.args.index in
    refused m at (instance_of o) 66 WrongConstant s.classes f f (ap instance_of (number_missing s to_reference o (c.in-None.ensures s m.constant_pool c.requires.table))) refl

pub pops-requires-clause-asked : goal.pops-requires-clause-asked
pops-requires-clause-asked g c = let s = c.args.frames.now.types in All-cons (IsExpected s) (Object c.args.object) [] c.requires.object (All-nil (IsExpected s))

pub pops-requires-clause-gives : goal.pops-requires-clause-gives
pops-requires-clause-gives g c = (int, record { number = refl; noted = tt })

pub returns-in-Some-clause-done : goal.returns-in-Some-clause-done
returns-in-Some-clause-done g c = λ at.
    let s = c.args.frames.now.types in
    let m = method_view c.args.method.now in
    let f = held c.args.frames.now in
    let o = class_at m.constant_pool c.args.index in
    let x = number_named s to_reference _ o (c.in-Some.ensures s m.constant_pool c.requires.table) in
    let ws = expected_class object_name ∷ [] in
    by_typing_rule m at (instance_of o) (pops ws (int ∷ []) [] true) s.classes f (held c.pops.new.frames) c.pops.result
    (ap instance_of x.is) (c.pops.ensures.done ws (type_stands s c.args.object (class_type object_name) c.requires.object, tt))
