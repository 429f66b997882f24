use Rattle.std.proofs.Common.{drop}
use Rattle.machine.specs.Views.{heap_view, fresh_view}
use Rattle.machine.proofs.Addresses.{Adding}
use Rattle.machine.proofs.heaps.add_fresh.Given as goal

abbrev pub invariant-loop-address : goal.invariant-loop-address
invariant-loop-address l = Adding (heap_view l.initial.heap) (fresh_view l.fresh) (heap_view l.heap) (fresh_view (drop l.address-index l.fresh))
