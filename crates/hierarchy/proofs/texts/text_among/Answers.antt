use Rattle.std.proofs.Common.{sym, arith}
use Rattle.hierarchy.proofs.TextPlaces.{among_past, among_within}
use Rattle.hierarchy.proofs.texts.text_among.Goals as goal

pub returns-then-place-texts : goal.returns-then-place-texts
returns-then-place-texts c = sym (among_within c.args.texts.now c.args.place _ c.if-place-texts.true)

pub returns-else-place-texts : goal.returns-else-place-texts
returns-else-place-texts c = sym (among_past c.args.texts.now c.args.place (omega (arith, c.if-place-texts.false)))
