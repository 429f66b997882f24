use Rattle.std.proofs.Common.{◌≡◌, take, map}
use Rattle.names.specs.Types.{type_of}
use Rattle.rules.specs.TypingRules.{expected_of}
use Rattle.rules.specs.Views.{expected_view}
use Rattle.rules.proofs.expected.expected_types_of.Given as goal

abbrev pub invariant-loop-parameter : goal.invariant-loop-parameter
invariant-loop-parameter l = map expected_view l.expected_types.items ≡ map expected_of (map type_of (take l.parameter-index l.parameters))
