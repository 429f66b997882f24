use Rattle.std.proofs.Common.{[], ◌∷◌, refl}
use Rattle.frames.specs.VerificationType.{int}
use Rattle.rules.specs.TypingRules.{any_array}
use Rattle.numbered_rules.proofs.Standing.{array_stands}
use Rattle.numbered_rules.proofs.simple_rules.array_length.Goals as goal

pub pops-requires-clause-gives : goal.pops-requires-clause-gives
pops-requires-clause-gives g c = (int, record { number = refl; noted = tt })

pub returns-clause-done : goal.returns-clause-done
returns-clause-done g c = c.pops.ensures.done (any_array ∷ []) (array_stands c.args.frames.now.types, tt)
