use Rattle.std.proofs.Common.{rules, subst}
use Rattle.names.specs.StandardNames.{object_name, throwable_name}
use Rattle.frames.specs.VerificationType.{class as class_of}
use Rattle.type_numbers.specs.Numbers.{IsNumber, IsNumberOf}
use Rattle.type_numbers.proofs.LawsOfNumbers.{number_stays, extends_on}
use Rattle.numbered_rules.specs.Expected.{objects}
use Rattle.verify.proofs.numbered.Numbered.{class_above, extends_through}
use Rattle.verify.proofs.pass.class_numbers.ClassNumbers.new.Goals as goal

pub returns-in_err-superclass-clause-kept : goal.returns-in_err-superclass-clause-kept
returns-in_err-superclass-clause-kept g c =
    extends_through c.args.types.now c.number.new.self c.number-2.new.self c.number-3.new.self c.number-4.new.self c.number_of.new.types
    c.number.ensures.kept c.number-2.ensures.kept c.number-3.ensures.kept c.number-4.ensures.kept c.number_of.ensures.kept

pub returns-clause-kept : goal.returns-clause-kept
returns-clause-kept g c =
    extends_through c.args.types.now c.number.new.self c.number-2.new.self c.number-3.new.self c.number-4.new.self c.number_of.new.types
    c.number.ensures.kept c.number-2.ensures.kept c.number-3.ensures.kept c.number-4.ensures.kept c.number_of.ensures.kept

pub returns-clause-given : goal.returns-clause-given
returns-clause-given g c =
    let s1 = c.number.new.self in
    let s2 = c.number-2.new.self in
    let s3 = c.number-3.new.self in
    let s4 = c.number-4.new.self in
    let s5 = c.number_of.new.types in
    let from3 = extends_on s3 s4 s5 c.number-4.ensures.kept c.number_of.ensures.kept in
    let from2 = extends_on s2 s3 s5 c.number-3.ensures.kept from3 in
    let from1 = extends_on s1 s2 s5 c.number-2.ensures.kept from2 in
    let object : IsNumber s1 c.in_ok-object.object (class_of object_name) = search (rules, c.in_ok-object.ensures.given) in
    let arrays : IsNumber s2 c.in_ok-objects.objects objects = search (rules, c.in_ok-objects.ensures.given) in
    let throwable : IsNumber s3 c.in_ok-throwable.throwable (class_of throwable_name) = search (rules, c.in_ok-throwable.ensures.given) in
    record {
      object = number_stays s1 s5 from1 c.in_ok-object.object (class_of object_name) object;
      objects = number_stays s2 s5 from2 c.in_ok-objects.objects objects arrays;
      throwable = number_stays s3 s5 from3 c.in_ok-throwable.throwable (class_of throwable_name) throwable;
      class = number_stays s4 s5 c.number_of.ensures.kept c.in_ok-own.own (class_of c.args.class.now) c.in_ok-own.ensures.given;
      superclass = subst (IsNumberOf s5 c.in_ok-superclass.superclass) (class_above c.args.superclass c.map.result c.map.ensures.cases) c.in_ok-superclass.ensures.given;
    }
