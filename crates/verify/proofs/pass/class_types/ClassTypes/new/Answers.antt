use Rattle.std.proofs.Common.{subst}
use Rattle.classfile.specs.Methods.{superclass_of}
use Rattle.type_numbers.proofs.LawsOfNumbers.{extends_on}
use Rattle.verify.specs.private.pass.ClassTypes.{AreClassNumbers}
use Rattle.verify.proofs.numbered.ClassTyped.{class_numbers_stay}
use Rattle.verify.proofs.pass.class_types.ClassTypes.new.Goals as goal

pub returns-clause-given : goal.returns-clause-given
returns-clause-given g c =
    let class = c.args.class.now in
    let s1 = c.new.new.types in
    let s2 = c.new-2.new.numbers in
    let s3 = c.method_types.new.types in
    let x = c.in_ok-numbers.numbers in
    let above = superclass_of class.constant_pool class.super_class in
    let later = extends_on s1 s2 s3 c.new-2.ensures.kept c.method_types.ensures.kept in
    record {
      numbers = class_numbers_stay s1 s3 later _ above x (subst (λ own. AreClassNumbers s1 own above x) c.class_name.ensures
          (subst (λ o. AreClassNumbers s1 c.class_name.result.now o x) c.superclass_name.ensures c.in_ok-numbers.ensures.given));
      table = c.in_ok-methods.ensures.described;
      methods = c.in_ok-methods.ensures.given;
    }

pub returns-in_err-table-clause-kept : goal.returns-in_err-table-clause-kept
returns-in_err-table-clause-kept g c = extends_on c.args.types.now c.new.new.types c.new-2.new.numbers c.new.ensures.kept c.new-2.ensures.kept

pub returns-in_err-methods-clause-kept : goal.returns-in_err-methods-clause-kept
returns-in_err-methods-clause-kept g c =
    let s2 = c.new-2.new.numbers in
    let early = extends_on c.args.types.now c.new.new.types s2 c.new.ensures.kept c.new-2.ensures.kept in
    extends_on c.args.types.now s2 c.method_types.new.types early c.method_types.ensures.kept

pub returns-clause-kept : goal.returns-clause-kept
returns-clause-kept g c =
    let s2 = c.new-2.new.numbers in
    let early = extends_on c.args.types.now c.new.new.types s2 c.new.ensures.kept c.new-2.ensures.kept in
    extends_on c.args.types.now s2 c.method_types.new.types early c.method_types.ensures.kept
