use Rattle.std.proofs.Common.{◌≡◌}
use Rattle.lower_calls.proofs.shared_rows.fill.Given as goal

abbrev pub invariant-loop-slot : goal.invariant-loop-slot
invariant-loop-slot l = l.arena.declared ≡ l.initial.arena.declared
