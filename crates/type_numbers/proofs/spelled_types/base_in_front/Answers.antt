use Rattle.std.proofs.Common.{◌∙◌, sym, ap}
use Rattle.names.specs.Descriptors.{class, primitive}
use Rattle.type_numbers.proofs.SpelledTypes.{class_begins, letter_begins, some_begins, same_primitive, no_primitive}
use Rattle.type_numbers.proofs.spelled_types.base_in_front.Goals as goal

pub returns-in-None-clause-named : goal.returns-in-None-clause-named
returns-in-None-clause-named c = λ t rest h. some_begins c.args.bytes.now rest t c.in-None.ensures.cases h

pub returns-in-Some-class_in_front-clause-named : goal.returns-in-Some-class_in_front-clause-named
returns-in-Some-class_in_front-clause-named c = λ t rest h.
    let s = c.in-Some-eq76-default in
    let k = class_begins c.args.bytes.now s.behind.now rest t s.field-0-0.now s.ensures.cases.0 s.field-0-0-test h in
    let found = c.in-Some-class_in_front.ensures.named k.0 rest k.2 k.3 in
    (ap class found.0 ∙ sym k.1, found.1)

pub returns-in-None-class_in_front-clause-named : goal.returns-in-None-class_in_front-clause-named
returns-in-None-class_in_front-clause-named c = λ t rest h.
    let s = c.in-Some-eq76-default in
    let k = class_begins c.args.bytes.now s.behind.now rest t s.field-0-0.now s.ensures.cases.0 s.field-0-0-test h in
    c.in-None-class_in_front.ensures.named k.0 rest k.2 k.3

pub returns-in-Some-primitive_of-clause-named : goal.returns-in-Some-primitive_of-clause-named
returns-in-Some-primitive_of-clause-named c = λ t rest h.
    let k = letter_begins c.args.bytes.now c.in-Some.behind.now rest t c.in-Some.letter.now c.in-Some.ensures.cases.0 c.in-Some.letter-test.1 h in
    (ap primitive (same_primitive c.in-Some-primitive_of.primitive k.0 _ c.in-Some-primitive_of.ensures k.2) ∙ sym k.1, k.3)

pub returns-in-None-primitive_of-clause-named : goal.returns-in-None-primitive_of-clause-named
returns-in-None-primitive_of-clause-named c = λ t rest h.
    let k = letter_begins c.args.bytes.now c.in-Some.behind.now rest t c.in-Some.letter.now c.in-Some.ensures.cases.0 c.in-Some.letter-test.1 h in
    no_primitive k.0 _ c.in-None-primitive_of.ensures k.2
