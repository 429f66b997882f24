use Rattle.std.proofs.Common.{[], Bool, Option, sym, subst, Some, None, option_map}
use Rattle.names.specs.Descriptors.{FieldDescriptor}
use Rattle.frames.specs.Slots.{descriptor_type}
use Rattle.type_numbers.specs.Numbers.{IsNumber, IsNumberOf}
use Rattle.type_numbers.specs.private.SpelledTypes.{IsResult}
use Rattle.type_numbers.proofs.SpelledMethods.{no_result, result_begins, some_result}
use Rattle.type_numbers.proofs.method_numbers.result_number.Goals as goal

pub returns-then-not-has_result-clause-number : goal.returns-then-not-has_result-clause-number
returns-then-not-has_result-clause-number g c = λ t h.
    let none = no_result t c.args.bytes.now (subst (λ (b : Bool). IsResult b c.args.bytes.now t) c.if-not-has_result.true h) in
    subst (λ (o : Option FieldDescriptor). IsNumberOf c.args.numbers.now None (option_map descriptor_type o)) (sym none) tt

pub returns-in-None-clause-number : goal.returns-in-None-clause-number
returns-in-None-clause-number g c = λ t h.
    let bytes = c.args.bytes.now in
    let here = subst (λ (b : Bool). IsResult b bytes t) c.if-not-has_result.false h in
    let some = some_result t bytes here in
    absurd (c.in-None.ensures.named some.0 [] (result_begins _ bytes some.0 (subst (IsResult _ bytes) some.1 here)))

pub returns-in_ok-number-in-Some-clause-number : goal.returns-in_ok-number-in-Some-clause-number
returns-in_ok-number-in-Some-clause-number g c = λ t h.
    let bytes = c.args.bytes.now in
    let s = c.number.new.self in
    let n = c.in_ok-number-in-Some.field-0 in
    let here = subst (λ (b : Bool). IsResult b bytes t) c.if-not-has_result.false h in
    let some = some_result t bytes here in
    let found = c.in-Some.ensures.named some.0 [] (result_begins _ bytes some.0 (subst (IsResult _ bytes) some.1 here)) in
    let given = subst (λ (u : FieldDescriptor). IsNumber s n (descriptor_type u)) found.0 (subst (IsNumber s n) c.held_by.ensures c.in_ok-number-in-Some.ensures.given) in
    subst (λ (o : Option FieldDescriptor). IsNumberOf s (Some n) (option_map descriptor_type o)) (sym some.1) given
