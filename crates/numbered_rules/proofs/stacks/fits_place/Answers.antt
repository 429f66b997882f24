use Rattle.std.proofs.Common.{◌∙◌, sym, ap}
use Rattle.frames.specs.Slots.{is_wide}
use Rattle.type_numbers.proofs.Decoded.{number_read}
use Rattle.rules.specs.After.{fits_place}
use Rattle.numbered_rules.specs.private.TypeParts.{is_narrow_by}
use Rattle.numbered_rules.proofs.TypeParts.{narrow_parts}
use Rattle.numbered_rules.proofs.stacks.fits_place.Goals as goal

pub returns-in-Narrow : goal.returns-in-Narrow
returns-in-Narrow c = λ s t h. c.is_narrow.ensures ∙ ap is_narrow_by c.of.ensures.tag ∙ narrow_parts s c.args.number t h ∙ ap (λ p. fits_place p t) (sym c.in-Narrow.is)

pub returns-in-Wide : goal.returns-in-Wide
returns-in-Wide c = λ s t h. c.is_wide.ensures s ∙ ap is_wide (number_read s c.args.number t h) ∙ ap (λ p. fits_place p t) (sym c.in-Wide.is)
