use Rattle.std.proofs.Common.{◌∙◌, sym, subst}
use Rattle.pool.specs.Entries.{Dynamic}
use Rattle.type_numbers.specs.Numbers.{IsNumberOf}
use Rattle.type_numbers.specs.private.Entries.{IsEntryDescribed}
use Rattle.type_numbers.specs.private.Readings.{shared_row, type_in}
use Rattle.type_numbers.proofs.LoadedTypes.{loaded_stays}
use Rattle.type_numbers.proofs.MethodReadings.{descriptors_stay}
use Rattle.type_numbers.proofs.NamedEntries.{dynamic_described, has_descriptor, no_dynamic}
use Rattle.type_numbers.proofs.Readings.{readings_stay}
use Rattle.type_numbers.proofs.texts.Texts.dynamic.Goals as goal

pub returns-in_default-clause-described : goal.returns-in_default-clause-described
returns-in_default-clause-described g c =
    no_dynamic c.args.numbers.now (shared_row c.args.self.now) c.args.pool.now c.args.name_and_type (sym c.descriptor_index.ensures ∙ c.in_default.is)

pub returns-clause-texts : goal.returns-clause-texts
returns-clause-texts g c = record {
  classes = readings_stay c.args.numbers.now c.number.new.numbers c.number.ensures.kept c.args.pool.now c.args.self.now.classes c.requires.classes;
  class_form = c.requires.class_form;
  descriptors = c.in_ok-held.ensures.readings;
  descriptor_form = c.number.ensures.form ∙ c.requires.descriptor_form;
  methods = descriptors_stay c.args.numbers.now c.number.new.numbers c.number.ensures.kept c.args.pool.now c.args.self.now.methods c.requires.methods;
  loaded = loaded_stays c.args.numbers.now c.number.new.numbers c.number.ensures.kept c.args.self.now.loaded c.requires.loaded;
}

pub returns-clause-described : goal.returns-clause-described
returns-clause-described g c =
    let s = c.number.new.numbers in
    let row = shared_row c.args.self.now in
    let pool = c.args.pool.now in
    let texts = has_descriptor pool c.args.name_and_type c.in-Some.descriptor (sym c.descriptor_index.ensures ∙ c.in-Some.is) in
    subst (IsEntryDescribed s row pool (Dynamic 0 c.args.name_and_type)) (sym c.dynamic_of.ensures)
    (dynamic_described s row pool c.args.name_and_type c.in-Some.descriptor texts c.in_ok-held.held
    (subst (λ f. IsNumberOf s c.in_ok-held.held (type_in f pool c.in-Some.descriptor)) c.requires.descriptor_form c.in_ok-held.ensures.number))
