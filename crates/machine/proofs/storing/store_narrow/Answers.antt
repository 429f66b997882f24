use Rattle.std.proofs.Common.{refl}
use Rattle.machine.specs.Views.{value_view}
use Rattle.machine.specs.declared.items.Slot.TheVariants as raw
use Rattle.machine.proofs.Writes.{stored_narrow}
use Rattle.machine.proofs.storing.store_narrow.Goals as goal

pub returns : goal.returns
returns c = rw c.put.ensures (stored_narrow c.args.place (raw.Value c.args.value) (value_view c.args.value) refl c.args.slots.now c.free_before.new.slots c.free_behind.new.slots c.free_before.ensures c.free_behind.ensures c.requires.narrow)
