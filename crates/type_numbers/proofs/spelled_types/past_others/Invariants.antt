use Rattle.std.proofs.Common.{length, ◌-◌}
use Rattle.type_numbers.specs.private.SpelledTypes.{AreOthersUpTo}
use Rattle.type_numbers.proofs.spelled_types.past_others.Given as goal

abbrev pub invariant-loop-at : goal.invariant-loop-at
invariant-loop-at l = AreOthersUpTo l.bytes l.at

abbrev pub decreases-loop-at : goal.decreases-loop-at
decreases-loop-at l = length l.bytes - l.at
