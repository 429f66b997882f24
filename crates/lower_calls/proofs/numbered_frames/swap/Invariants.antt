use Rattle.std.proofs.Common.{◌≡◌}
use Rattle.lower_calls.proofs.numbered_frames.swap.Given as goal

abbrev pub invariant-loop-form : goal.invariant-loop-form
invariant-loop-form g l = l.frames.declared ≡ l.initial.frames.declared
