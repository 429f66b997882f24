use Rattle.std.proofs.Common.{◌≡◌, length}
use Rattle.blocks.specs.private.Pending.{read_through}
use Rattle.blocks.proofs.arena.do_all.Given as goal

abbrev pub invariant-loop-pending : goal.invariant-loop-pending
invariant-loop-pending l = read_through l.pending.pairs.items l.rows ≡ read_through l.fn.pending.pairs.items l.fn.rows

abbrev pub decreases-loop-pending : goal.decreases-loop-pending
decreases-loop-pending l = length l.pending.pairs.items
