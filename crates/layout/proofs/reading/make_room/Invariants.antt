use Rattle.std.proofs.Common.{◌≡◌, ◌+◌, length, take, vec_capacity}
use Rattle.layout.proofs.reading.make_room.Given as goal

abbrev pub invariant-loop : goal.invariant-loop
invariant-loop l = (take (length l.fn.bytes.items) l.bytes.items ≡ l.fn.bytes.items) × (length l.bytes.items ≡ length l.fn.bytes.items + l.counter) × (vec_capacity l.bytes ≡ vec_capacity l.initial.bytes)
