use Rattle.std.proofs.Common.{◌∙◌, sym, subst}
use Rattle.pool.specs.Entries.{InvokeDynamic}
use Rattle.type_numbers.specs.private.Entries.{IsEntryDescribed}
use Rattle.type_numbers.specs.private.Readings.{shared_row}
use Rattle.type_numbers.proofs.LoadedTypes.{loaded_stays}
use Rattle.type_numbers.proofs.MethodReadings.{goes_nowhere}
use Rattle.type_numbers.proofs.NamedEntries.{has_descriptor, no_site, site_described}
use Rattle.type_numbers.proofs.Readings.{readings_stay}
use Rattle.type_numbers.proofs.texts.Texts.call_site.Goals as goal

pub returns-in_default-clause-grown : goal.returns-in_default-clause-grown
returns-in_default-clause-grown g c = goes_nowhere (shared_row c.args.self.now)

pub returns-in_default-clause-described : goal.returns-in_default-clause-described
returns-in_default-clause-described g c =
    no_site c.args.numbers.now (shared_row c.args.self.now) c.args.pool.now c.args.name_and_type (sym c.descriptor_index.ensures ∙ c.in_default.is)

pub returns-clause-texts : goal.returns-clause-texts
returns-clause-texts g c = record {
  classes = readings_stay c.args.numbers.now c.types.new.numbers c.types.ensures.kept c.args.pool.now c.args.self.now.classes c.requires.classes;
  class_form = c.requires.class_form;
  descriptors = readings_stay c.args.numbers.now c.types.new.numbers c.types.ensures.kept c.args.pool.now c.args.self.now.descriptors c.requires.descriptors;
  descriptor_form = c.requires.descriptor_form;
  methods = c.in_ok-types.ensures.readings;
  loaded = loaded_stays c.args.numbers.now c.types.new.numbers c.types.ensures.kept c.args.self.now.loaded c.requires.loaded;
}

pub returns-clause-described : goal.returns-clause-described
returns-clause-described g c =
    let s = c.types.new.numbers in
    let row = shared_row (record { classes = c.args.self.now.classes; descriptors = c.args.self.now.descriptors; methods = c.types.new.self; loaded = c.args.self.now.loaded }) in
    let pool = c.args.pool.now in
    let texts = has_descriptor pool c.args.name_and_type c.in-Some.descriptor (sym c.descriptor_index.ensures ∙ c.in-Some.is) in
    subst (IsEntryDescribed s row pool (InvokeDynamic 0 c.args.name_and_type)) (sym c.site_of.ensures)
    (site_described s row pool c.args.name_and_type c.in-Some.descriptor texts c.is_special_named.result c.in_ok-types.types c.is_special_named.ensures c.in_ok-types.ensures.types)
