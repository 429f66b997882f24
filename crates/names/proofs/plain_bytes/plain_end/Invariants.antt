use Rattle.std.proofs.Common.{length, ◌-◌}
use Rattle.names.specs.Forms.{IsPlainUpTo}
use Rattle.names.proofs.plain_bytes.plain_end.Given as goal

abbrev pub invariant-loop-at : goal.invariant-loop-at
invariant-loop-at l = IsPlainUpTo l.bytes l.from l.at

abbrev pub decreases-loop-at : goal.decreases-loop-at
decreases-loop-at l = length l.bytes - l.at
