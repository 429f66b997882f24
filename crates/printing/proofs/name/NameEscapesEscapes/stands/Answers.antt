use Rattle.std.proofs.Common.{◌≡◌, true, sym, subst, ◌∙◌}
use Rattle.printing.specs.Names.{is_plain}
use Rattle.printing.proofs.RunLaws.{plain_stands}
use Rattle.printing.proofs.name.NameEscapesEscapes.stands.Goals as goal

pub returns : goal.returns
returns c = λ is. plain_stands c.args.byte (subst (λ b. is_plain b ≡ true) c.from.ensures (sym c.is_plain.ensures ∙ is))
