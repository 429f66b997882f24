use Rattle.std.proofs.Common.{◌≡◌, take, map}
use Rattle.rules.specs.TypingRules.{numbers}
use Rattle.rules.specs.Views.{expected_view}
use Rattle.rules.proofs.expected_types.of_numbers.Given as goal

abbrev pub invariant-loop-kind : goal.invariant-loop-kind
invariant-loop-kind l = map expected_view l.types.items ≡ numbers (take l.kind-index l.taken)
