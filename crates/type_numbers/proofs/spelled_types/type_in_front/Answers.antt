use Rattle.std.proofs.Common.{◌∙◌, ap, arith, ℕ}
use Rattle.names.specs.Descriptors.{dimensioned}
use Rattle.type_numbers.proofs.SpelledTypes.{base_in, base_begins, brackets_counted, dimensions_back}
use Rattle.type_numbers.proofs.spelled_types.type_in_front.Goals as goal

pub returns-then-dims-gt255-clause-named : goal.returns-then-dims-gt255-clause-named
returns-then-dims-gt255-clause-named c = λ t rest h.
    let count = brackets_counted c.args.bytes.now rest t c.brackets-dims.result h c.brackets-dims.ensures.count in
    let shallow = h.shallow in
    let deep = c.if-dims-gt255.true in
    omega (arith, count, shallow, deep)

pub returns-in-Some-clause-named : goal.returns-in-Some-clause-named
returns-in-Some-clause-named c = λ t rest h.
    let dims = c.brackets-dims.result in
    let count = brackets_counted c.args.bytes.now rest t dims h c.brackets-dims.ensures.count in
    let begins = base_begins c.args.bytes.now c.split_at.result.1.now rest t dims h c.brackets-dims.ensures.count c.split_at.ensures.back in
    let found = c.in-Some.ensures.named (base_in t) rest begins in
    (ap (dimensioned dims) found.0 ∙ ap (λ (k : ℕ). dimensioned k (base_in t)) count ∙ dimensions_back t, found.1)

pub returns-in-None-clause-named : goal.returns-in-None-clause-named
returns-in-None-clause-named c = λ t rest h.
    c.in-None.ensures.named (base_in t) rest (base_begins c.args.bytes.now c.split_at.result.1.now rest t c.brackets-dims.result h c.brackets-dims.ensures.count c.split_at.ensures.back)
