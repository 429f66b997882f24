use Rattle.names.specs.StandardNames.{string_name, class_name, method_type_name}
use Rattle.frames.specs.VerificationType.{class}
use Rattle.type_numbers.proofs.LawsOfNumbers.{extends_on, number_stays}
use Rattle.type_numbers.proofs.loaded_numbers.LoadedNumbers.new.Goals as goal

pub returns-clause-kept : goal.returns-clause-kept
returns-clause-kept g c =
    let first = c.args.numbers.now in
    let last = c.number-4.new.self in
    let two = extends_on first c.number.new.self c.number-2.new.self c.number.ensures.kept c.number-2.ensures.kept in
    let three = extends_on first c.number-2.new.self c.number-3.new.self two c.number-3.ensures.kept in
    extends_on first c.number-3.new.self last three c.number-4.ensures.kept

pub returns-clause-given : goal.returns-clause-given
returns-clause-given g c =
    let last = c.number-4.new.self in
    let from_three = c.number-4.ensures.kept in
    let from_two = extends_on c.number-2.new.self c.number-3.new.self last c.number-3.ensures.kept from_three in
    let from_one = extends_on c.number.new.self c.number-2.new.self last c.number-2.ensures.kept from_two in
    record {
      string = number_stays c.number.new.self last from_one c.in_ok-string.string (class string_name) c.in_ok-string.ensures.given;
      class_object = number_stays c.number-2.new.self last from_two c.in_ok-class.class (class class_name) c.in_ok-class.ensures.given;
      method_type = number_stays c.number-3.new.self last from_three c.in_ok-method_type.method_type (class method_type_name) c.in_ok-method_type.ensures.given;
      method_handle = c.in_ok-method_handle.ensures.given;
    }
