use Rattle.std.proofs.Common.{◌≡◌, ◌-◌, ◌≤◌, length, get_or, arith, ap, ◌∙◌}
use Rattle.std.proofs.lemmas.Bool.Decides.{nat_tests}
use Rattle.std.proofs.lemmas.Option.{slice_get_within, get_or_from_slice_get}
use Rattle.rules.proofs.Guarding.{answer_at}
use Rattle.rules.proofs.guards.Guards.get.Goals as goal

pub returns-then-index-eq0 : goal.returns-then-index-eq0
returns-then-index-eq0 c = λ classes class r are other is.
    let x = answer_at classes class c.args.self.now c.args.index r are other is in
    absurd (omega (arith, x.1, c.if-index-eq0.true))

pub returns-then-place-len : goal.returns-then-place-len
returns-then-place-len c = λ classes class r are other is.
    let places = c.args.self.now.places in
    let x = answer_at classes class c.args.self.now c.args.index r are other is in
    let past : length places.items ≤ c.args.index - 1 = grind (arith, nat_tests, c.if-place-len.true, c.len.ensures, places.ok.0) in
    absurd (omega (arith, past, x.1, slice_get_within places.items x.0 x.2.number x.2.placed))

pub returns-then-number-len : goal.returns-then-number-len
returns-then-number-len c = λ classes class r are other is.
    let places = c.args.self.now.places in
    let answers = c.args.self.now.answers in
    let x = answer_at classes class c.args.self.now c.args.index r are other is in
    let here : c.args.index - 1 ≡ x.0 = omega (arith, x.1) in
    let number : c.index-number.result.now ≡ x.2.number =
    c.index-number.ensures ∙ ap (λ n. get_or places.items n c.index-number.result.now) here
    ∙ get_or_from_slice_get places.items x.0 x.2.number c.index-number.result.now x.2.placed in
    let past : length answers.items ≤ c.index-number.result.now = grind (arith, nat_tests, c.if-number-len.true, c.len-2.ensures, answers.ok.0) in
    absurd (omega (arith, past, number, slice_get_within answers.items x.2.number _ x.2.there))

pub returns : goal.returns
returns c = λ classes class r are other is.
    let places = c.args.self.now.places in
    let answers = c.args.self.now.answers in
    let x = answer_at classes class c.args.self.now c.args.index r are other is in
    let here : c.args.index - 1 ≡ x.0 = omega (arith, x.1) in
    let number : c.index-number.result.now ≡ x.2.number =
    c.index-number.ensures ∙ ap (λ n. get_or places.items n c.index-number.result.now) here
    ∙ get_or_from_slice_get places.items x.0 x.2.number c.index-number.result.now x.2.placed in
    c.index.ensures ∙ ap (λ n. get_or answers.items n c.index.result.now) number
    ∙ get_or_from_slice_get answers.items x.2.number _ c.index.result.now x.2.there
