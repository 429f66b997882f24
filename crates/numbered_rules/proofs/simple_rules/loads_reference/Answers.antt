use Rattle.rules.specs.TypingRules.{any_reference}
use Rattle.numbered_rules.proofs.Standing.{reference_stands}
use Rattle.numbered_rules.proofs.simple_rules.loads_reference.Goals as goal

pub returns-clause-done : goal.returns-clause-done
returns-clause-done g c = c.loads.ensures.done any_reference (reference_stands c.args.frames.now.types)
