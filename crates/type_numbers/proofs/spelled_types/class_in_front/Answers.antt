use Rattle.std.proofs.Common.{◌∙◌, sym}
use Rattle.names.specs.Names.{semicolon}
use Rattle.type_numbers.proofs.SpelledTypes.{name_found, same_others, nothing_found}
use Rattle.type_numbers.proofs.spelled_types.class_in_front.Goals as goal

pub returns-in-Some-clause-named : goal.returns-in-Some-clause-named
returns-in-Some-clause-named c = λ name rest named parts.
    let f = name_found c.args.bytes.now name rest c.before_semicolon-size.result named parts c.before_semicolon-size.ensures.place in
    (c.split_at.ensures.front ∙ f.0, same_others c.in-Some.field-0-0.now semicolon c.in-Some.behind.now rest (sym c.in-Some.ensures.cases.0 ∙ c.split_at.ensures.back ∙ f.1))

pub returns-in-None-clause-named : goal.returns-in-None-clause-named
returns-in-None-clause-named c = λ name rest named parts.
    let f = name_found c.args.bytes.now name rest c.before_semicolon-size.result named parts c.before_semicolon-size.ensures.place in
    absurd (nothing_found semicolon rest _ (sym (c.split_at.ensures.back ∙ f.1)) c.in-None.ensures.cases)
