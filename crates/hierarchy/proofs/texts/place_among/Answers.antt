use Rattle.std.proofs.Common.{◌∙◌, length, sym, arith}
use Rattle.hierarchy.proofs.TextPlaces.{among_past}
use Rattle.hierarchy.proofs.texts.place_among.Goals as goal

pub returns-else-place-texts-clause-same : goal.returns-else-place-texts-clause-same
returns-else-place-texts-clause-same c =
    among_past c.args.texts.now (length c.args.texts.now) (omega arith) ∙ sym (among_past c.args.texts.now c.args.place (omega (arith, c.if-place-texts.false)))
