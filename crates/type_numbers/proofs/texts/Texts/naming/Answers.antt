use Rattle.std.proofs.Common.{sym, subst}
use Rattle.pool.specs.Views.{view}
use Rattle.type_numbers.specs.private.Entries.{IsEntryDescribed}
use Rattle.type_numbers.specs.private.Readings.{shared_row}
use Rattle.type_numbers.proofs.FieldEntries.{other_described}
use Rattle.type_numbers.proofs.MethodReadings.{goes_nowhere}
use Rattle.type_numbers.proofs.texts.Texts.naming.Goals as goal

pub returns-in_default-clause-grown : goal.returns-in_default-clause-grown
returns-in_default-clause-grown g c = goes_nowhere (shared_row c.args.self.now)

pub returns-in_default-clause-described : goal.returns-in_default-clause-described
returns-in_default-clause-described g c =
    let s = c.args.numbers.now in
    let row = shared_row c.args.self.now in
    let pool = c.args.pool.now in
    subst (IsEntryDescribed s row pool (view c.args.constant)) (sym c.loaded_as.ensures)
    (other_described s row pool c.args.constant c.of.result (record {
      no_class = c.in_default.not-Class;
      no_field = c.in_default.not-Fieldref;
      no_method = c.in_default.not-Methodref;
      no_interface_method = c.in_default.not-InterfaceMethodref;
      no_dynamic = c.in_default.not-Dynamic;
      no_site = c.in_default.not-InvokeDynamic;
    }) (c.of.ensures s c.requires.loaded))
