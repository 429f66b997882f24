use Rattle.std.proofs.Common.{◌∙◌, sym, subst}
use Rattle.pool.specs.Entries.{Fieldref}
use Rattle.type_numbers.specs.private.Entries.{IsEntryDescribed}
use Rattle.type_numbers.specs.private.Readings.{shared_row}
use Rattle.type_numbers.proofs.FieldEntries.{described, has_texts, no_field}
use Rattle.type_numbers.proofs.texts.Texts.field.Goals as goal

pub returns-in_default-clause-described : goal.returns-in_default-clause-described
returns-in_default-clause-described g c =
    no_field c.args.numbers.now (shared_row c.args.self.now) c.args.pool.now c.args.class c.args.name_and_type (sym c.member_texts.ensures ∙ c.in_default.is)

pub returns-clause-described : goal.returns-clause-described
returns-clause-described g c =
    let s = c.field_types.new.numbers in
    let row = shared_row c.field_types.new.self in
    let pool = c.args.pool.now in
    let texts = has_texts pool c.args.class c.args.name_and_type c.in-Some.name c.in-Some.descriptor (sym c.member_texts.ensures ∙ c.in-Some.is) in
    subst (IsEntryDescribed s row pool (Fieldref c.args.class c.args.name_and_type)) (sym c.field_of.ensures)
    (described pool c.args.class c.args.name_and_type s row c.in-Some.name c.in-Some.descriptor texts c.in_ok-class.class c.in_ok-class.held c.in_ok-class.ensures.class c.in_ok-class.ensures.held)
