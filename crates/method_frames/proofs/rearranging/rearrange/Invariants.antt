use Rattle.method_frames.proofs.ItemMoves.{Removes}
use Rattle.method_frames.proofs.rearranging.rearrange.Given as goal

abbrev pub invariant-loop : goal.invariant-loop
invariant-loop l = Removes l.form.leaves.now l.below l.counter l.fn.stack.items l.stack.items
