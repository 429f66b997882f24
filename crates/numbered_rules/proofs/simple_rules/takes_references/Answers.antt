use Rattle.std.proofs.Common.{[], ◌∷◌}
use Rattle.rules.specs.TypingRules.{any_reference}
use Rattle.numbered_rules.proofs.Standing.{reference_stands}
use Rattle.numbered_rules.proofs.simple_rules.takes_references.Goals as goal

pub returns-clause-done : goal.returns-clause-done
returns-clause-done g c =
    let s = c.args.frames.now.types in
    c.pops.ensures.done (any_reference ∷ any_reference ∷ []) (reference_stands s, (reference_stands s, tt))
