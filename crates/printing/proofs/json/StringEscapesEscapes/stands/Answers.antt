use Rattle.std.proofs.Common.{◌≡◌, true, sym, subst, ◌∙◌}
use Rattle.printing.specs.Json.{is_unescaped}
use Rattle.printing.proofs.RunLaws.{unescaped_stands}
use Rattle.printing.proofs.json.StringEscapesEscapes.stands.Goals as goal

pub returns : goal.returns
returns c = λ is. unescaped_stands c.args.byte (subst (λ b. is_unescaped b ≡ true) c.from.ensures (sym c.is_unescaped.ensures ∙ is))
