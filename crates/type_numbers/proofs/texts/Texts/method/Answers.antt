use Rattle.std.proofs.Common.{◌∙◌, sym, subst}
use Rattle.pool.specs.Lookups.{methodref}
use Rattle.type_numbers.specs.private.Entries.{IsEntryDescribed}
use Rattle.type_numbers.specs.private.Readings.{shared_row}
use Rattle.type_numbers.proofs.FieldEntries.{has_texts}
use Rattle.type_numbers.proofs.MethodEntries.{method_described, no_method}
use Rattle.type_numbers.proofs.MethodReadings.{goes_nowhere}
use Rattle.type_numbers.proofs.texts.Texts.method.Goals as goal

pub returns-in_default-clause-grown : goal.returns-in_default-clause-grown
returns-in_default-clause-grown g c = goes_nowhere (shared_row c.args.self.now)

pub returns-in_default-clause-described : goal.returns-in_default-clause-described
returns-in_default-clause-described g c =
    no_method c.args.numbers.now (shared_row c.args.self.now) c.args.pool.now c.args.interface c.args.class c.args.name_and_type (sym c.member_texts.ensures ∙ c.in_default.is)

pub returns-clause-described : goal.returns-clause-described
returns-clause-described g c =
    let s = c.method_types.new.numbers in
    let row = shared_row c.method_types.new.self in
    let pool = c.args.pool.now in
    let texts = has_texts pool c.args.class c.args.name_and_type c.in-Some.name c.in-Some.descriptor (sym c.member_texts.ensures ∙ c.in-Some.is) in
    subst (IsEntryDescribed s row pool (methodref c.args.interface c.args.class c.args.name_and_type)) (sym c.method_of.ensures)
    (method_described s row pool c.args.interface c.args.class c.args.name_and_type c.in-Some.name c.in-Some.descriptor texts c.is_init_named.result c.in_ok-class.class c.in_ok-class.types c.is_init_named.ensures c.in_ok-class.ensures.class c.in_ok-class.ensures.types)
