use Rattle.std.proofs.Common.{◌∙◌, sym, ap, refl}
use Rattle.frames.specs.VerificationType.{top}
use Rattle.type_numbers.proofs.Decoded.{number_read}
use Rattle.rules.specs.After.{element_of}
use Rattle.numbered_rules.proofs.Elements.{second_some, second_none}
use Rattle.numbered_rules.proofs.arrays.element_beneath.Goals as goal

pub returns-in-Some-clause-element : goal.returns-in-Some-clause-element
returns-in-Some-clause-element g c =
    let x = c.args.frames.now in
    let n = c.in-Some.number in
    let h = c.in-Some.ensures.given in
    number_read x.types c.element_of.result (element_of h.0) (c.element_of.ensures x.types h.0 h.1)
    ∙ ap element_of (sym (number_read x.types n h.0 h.1) ∙ sym (second_some x.types x.running.stack n c.in-Some.ensures.item))

pub returns-in-None-clause-given : goal.returns-in-None-clause-given
returns-in-None-clause-given g c = (top, record { number = refl; noted = tt })

pub returns-in-None-clause-element : goal.returns-in-None-clause-element
returns-in-None-clause-element g c = let x = c.args.frames.now in sym (ap element_of (second_none x.types x.running.stack c.in-None.ensures.item))
