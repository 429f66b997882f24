use Rattle.std.proofs.Common.{[], ◌∷◌}
use Rattle.names.specs.ReferenceTypes.{class_type}
use Rattle.names.specs.StandardNames.{throwable_name}
use Rattle.rules.specs.TypingRules.{expected_class}
use Rattle.numbered_rules.proofs.Standing.{type_stands}
use Rattle.numbered_rules.proofs.simple_rules.throws.Goals as goal

pub returns-clause-done : goal.returns-clause-done
returns-clause-done g c = c.pops.ensures.done (expected_class throwable_name ∷ []) (type_stands c.args.frames.now.types c.args.throwable (class_type throwable_name) c.requires, tt)
