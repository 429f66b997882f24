use Rattle.std.proofs.Common.{◌∙◌, sym, subst}
use Rattle.pool.specs.Entries.{Class}
use Rattle.type_numbers.specs.Numbers.{IsNumberOf}
use Rattle.type_numbers.specs.private.Entries.{IsEntryDescribed}
use Rattle.type_numbers.specs.private.Readings.{shared_row, type_in}
use Rattle.type_numbers.proofs.FieldEntries.{class_described}
use Rattle.type_numbers.proofs.LoadedTypes.{loaded_stays}
use Rattle.type_numbers.proofs.MethodReadings.{descriptors_stay}
use Rattle.type_numbers.proofs.Readings.{readings_stay}
use Rattle.type_numbers.proofs.texts.Texts.class.Goals as goal

pub returns-clause-texts : goal.returns-clause-texts
returns-clause-texts g c = record {
  classes = c.in_ok-class.ensures.readings;
  class_form = c.number.ensures.form ∙ c.requires.class_form;
  descriptors = readings_stay c.args.numbers.now c.number.new.numbers c.number.ensures.kept c.args.pool.now c.args.self.now.descriptors c.requires.descriptors;
  descriptor_form = c.requires.descriptor_form;
  methods = descriptors_stay c.args.numbers.now c.number.new.numbers c.number.ensures.kept c.args.pool.now c.args.self.now.methods c.requires.methods;
  loaded = loaded_stays c.args.numbers.now c.number.new.numbers c.number.ensures.kept c.args.self.now.loaded c.requires.loaded;
}

pub returns-clause-described : goal.returns-clause-described
returns-clause-described g c =
    let s = c.number.new.numbers in
    let row = shared_row c.args.self.now in
    let pool = c.args.pool.now in
    let loaded = loaded_stays c.args.numbers.now s c.number.ensures.kept c.args.self.now.loaded c.requires.loaded in
    subst (IsEntryDescribed s row pool (Class c.args.name)) (sym c.class_as.ensures)
    (class_described s row pool c.args.name c.in_ok-class.class c.args.self.now.loaded.class
    (subst (λ f. IsNumberOf s c.in_ok-class.class (type_in f pool c.args.name)) c.requires.class_form c.in_ok-class.ensures.number) loaded.class_object)
