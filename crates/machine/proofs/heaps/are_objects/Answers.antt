use Rattle.machine.proofs.Addresses.{objects_are, are_objects}
use Rattle.machine.proofs.heaps.are_objects.Goals as goal

pub returns : goal.returns
returns c = (
  (λ e. objects_are c.args.heap.now c.args.own c.all_may_be.ensures.ordered (c.all_may_be.ensures.tested.0 e)),
  (λ n. c.all_may_be.ensures.tested.1 (are_objects c.args.heap.now c.args.own c.all_may_be.ensures.ordered n)),
)
