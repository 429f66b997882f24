use Rattle.std.proofs.Common.{◌∙◌, subst}
use Rattle.type_numbers.specs.Numbers.{IsNumberOf}
use Rattle.type_numbers.specs.private.Readings.{type_in}
use Rattle.type_numbers.proofs.FieldEntries.{number_of_stays}
use Rattle.type_numbers.proofs.LawsOfNumbers.{extends_on}
use Rattle.type_numbers.proofs.LoadedTypes.{loaded_stays}
use Rattle.type_numbers.proofs.MethodReadings.{descriptors_stay}
use Rattle.type_numbers.proofs.Readings.{readings_stay}
use Rattle.type_numbers.proofs.texts.Texts.method_types.Goals as goal

pub types-requires : goal.types-requires
types-requires g c = record { read = descriptors_stay c.args.numbers.now c.number.new.numbers c.number.ensures.kept c.args.pool.now c.args.self.now.methods c.requires.methods }

pub returns-in_err-types-clause-kept : goal.returns-in_err-types-clause-kept
returns-in_err-types-clause-kept g c = extends_on c.args.numbers.now c.number.new.numbers c.types.new.numbers c.number.ensures.kept c.types.ensures.kept

pub returns-clause-kept : goal.returns-clause-kept
returns-clause-kept g c = extends_on c.args.numbers.now c.number.new.numbers c.types.new.numbers c.number.ensures.kept c.types.ensures.kept

pub returns-clause-texts : goal.returns-clause-texts
returns-clause-texts g c = record {
  classes = readings_stay c.number.new.numbers c.types.new.numbers c.types.ensures.kept c.args.pool.now c.number.new.self c.in_ok-class.ensures.readings;
  class_form = c.number.ensures.form ∙ c.requires.class_form;
  descriptors = readings_stay c.args.numbers.now c.types.new.numbers (extends_on c.args.numbers.now c.number.new.numbers c.types.new.numbers c.number.ensures.kept c.types.ensures.kept) c.args.pool.now c.args.self.now.descriptors c.requires.descriptors;
  descriptor_form = c.requires.descriptor_form;
  methods = c.in_ok-types.ensures.readings;
  loaded = loaded_stays c.args.numbers.now c.types.new.numbers (extends_on c.args.numbers.now c.number.new.numbers c.types.new.numbers c.number.ensures.kept c.types.ensures.kept) c.args.self.now.loaded c.requires.loaded;
}

pub returns-clause-class : goal.returns-clause-class
returns-clause-class g c =
    subst (λ f. IsNumberOf c.types.new.numbers c.in_ok-class.class (type_in f c.args.pool.now c.args.name)) c.requires.class_form
    (number_of_stays c.number.new.numbers c.types.new.numbers c.types.ensures.kept c.in_ok-class.class (type_in c.args.self.now.classes.form c.args.pool.now c.args.name) c.in_ok-class.ensures.number)
