use Rattle.std.proofs.Common.{◌∙◌, subst}
use Rattle.type_numbers.specs.Numbers.{IsNumberOf}
use Rattle.type_numbers.specs.private.Readings.{type_in}
use Rattle.type_numbers.proofs.FieldEntries.{number_of_stays}
use Rattle.type_numbers.proofs.LawsOfNumbers.{extends_on}
use Rattle.type_numbers.proofs.LoadedTypes.{loaded_stays}
use Rattle.type_numbers.proofs.MethodReadings.{descriptors_stay}
use Rattle.type_numbers.proofs.Readings.{readings_stay}
use Rattle.type_numbers.proofs.texts.Texts.field_types.Goals as goal

pub number-requires-2 : goal.number-requires-2
number-requires-2 g c = record { read = readings_stay c.args.numbers.now c.number.new.numbers c.number.ensures.kept c.args.pool.now c.args.self.now.descriptors c.requires.descriptors }

pub returns-in_err-held-clause-kept : goal.returns-in_err-held-clause-kept
returns-in_err-held-clause-kept g c = extends_on c.args.numbers.now c.number.new.numbers c.number-2.new.numbers c.number.ensures.kept c.number-2.ensures.kept

pub returns-clause-kept : goal.returns-clause-kept
returns-clause-kept g c = extends_on c.args.numbers.now c.number.new.numbers c.number-2.new.numbers c.number.ensures.kept c.number-2.ensures.kept

pub returns-clause-texts : goal.returns-clause-texts
returns-clause-texts g c = record {
  classes = readings_stay c.number.new.numbers c.number-2.new.numbers c.number-2.ensures.kept c.args.pool.now c.number.new.self c.in_ok-class.ensures.readings;
  class_form = c.number.ensures.form ∙ c.requires.class_form;
  descriptors = c.in_ok-held.ensures.readings;
  descriptor_form = c.number-2.ensures.form ∙ c.requires.descriptor_form;
  methods = descriptors_stay c.args.numbers.now c.number-2.new.numbers (extends_on c.args.numbers.now c.number.new.numbers c.number-2.new.numbers c.number.ensures.kept c.number-2.ensures.kept) c.args.pool.now c.args.self.now.methods c.requires.methods;
  loaded = loaded_stays c.args.numbers.now c.number-2.new.numbers (extends_on c.args.numbers.now c.number.new.numbers c.number-2.new.numbers c.number.ensures.kept c.number-2.ensures.kept) c.args.self.now.loaded c.requires.loaded;
}

pub returns-clause-class : goal.returns-clause-class
returns-clause-class g c =
    subst (λ f. IsNumberOf c.number-2.new.numbers c.in_ok-class.class (type_in f c.args.pool.now c.args.name)) c.requires.class_form
    (number_of_stays c.number.new.numbers c.number-2.new.numbers c.number-2.ensures.kept c.in_ok-class.class (type_in c.args.self.now.classes.form c.args.pool.now c.args.name) c.in_ok-class.ensures.number)
