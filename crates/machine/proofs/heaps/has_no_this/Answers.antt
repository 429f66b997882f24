use Rattle.machine.proofs.Addresses.{no_this, this_none}
use Rattle.machine.proofs.heaps.has_no_this.Goals as goal

pub returns : goal.returns
returns c = (λ e. no_this c.args.heap.now (c.are_others.ensures.tested.0 e), λ n. c.are_others.ensures.tested.1 (this_none c.args.heap.now c.are_others.ensures.ordered n))
