use Rattle.std.proofs.Common.{option_map, refl, subst}
use Rattle.pool.specs.ConstantMeanings.{class_at}
use Rattle.classfile.specs.Methods.{class_named}
use Rattle.frames.specs.VerificationType.{class as class_of}
use Rattle.type_numbers.specs.Numbers.{IsNumberOf}
use Rattle.rules.specs.Bodies.{method_view}
use Rattle.rules.specs.Constants.{new_object}
use Rattle.rules.specs.TypingRules.{makes}
use Rattle.rules.specs.declared.reason.Reason.TheVariants.{WrongConstant}
use Rattle.rules.proofs.Made.{named_object}
use Rattle.rules.proofs.Settling.{by_typing_rule}
use Rattle.numbered_rules.specs.RunningFrame.{held}
use Rattle.numbered_rules.proofs.Judging.{refused}
use Rattle.numbered_rules.proofs.NamedClasses.{none_made}
use Rattle.numbered_rules.proofs.Naming.{number_missing, number_named}
use Rattle.numbered_rules.proofs.object_creation.new_object.Goals as goal

pub returns-in-None-clause-done : goal.returns-in-None-clause-done
returns-in-None-clause-done g c =
    let s = c.args.frames.now.types in
    let m = method_view c.args.method.now in
    let f = held c.args.frames.now in
    let o = class_at m.constant_pool c.args.index in
    refused m c.args.at (new_object o) 66 WrongConstant s.classes f f
    (none_made o (number_missing s class_of (class_named o) (subst (λ r. IsNumberOf s r (option_map class_of (class_named o))) c.in-None.is (c.class_named.ensures s m.constant_pool c.requires)))) refl

pub returns-in-Some-clause-done : goal.returns-in-Some-clause-done
returns-in-Some-clause-done g c =
    let s = c.args.frames.now.types in
    let m = method_view c.args.method.now in
    let o = class_at m.constant_pool c.args.index in
    let x = number_named s class_of c.in-Some.field-0 (class_named o) (subst (λ r. IsNumberOf s r (option_map class_of (class_named o))) c.in-Some.is (c.class_named.ensures s m.constant_pool c.requires)) in
    by_typing_rule m c.args.at (new_object o) (makes x.value) s.classes (held c.args.frames.now) (held c.makes.new.frames) c.makes.result (named_object o x.value x.is) (c.makes.ensures.done x.value)
