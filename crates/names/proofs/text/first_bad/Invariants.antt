use Rattle.std.proofs.Common.{length, ◌-◌, ◌≤◌}
use Rattle.names.proofs.UnitLaws.{ReadTo}
use Rattle.names.proofs.text.first_bad.Given as goal

abbrev pub invariant-loop-at : goal.invariant-loop-at
invariant-loop-at l = record { within : l.at ≤ length l.bytes; read : ReadTo l.bytes l.at }

abbrev pub decreases-loop-at : goal.decreases-loop-at
decreases-loop-at l = length l.bytes - l.at
