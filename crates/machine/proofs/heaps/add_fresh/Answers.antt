use Rattle.std.proofs.Common.{inr, refl, sym, ◌∙◌}
use Rattle.machine.specs.Views.{heap_view, fresh_view}
use Rattle.machine.proofs.Addresses.{used, added}
use Rattle.machine.proofs.heaps.add_fresh.Goals as goal

pub returns-then-contains_key : goal.returns-then-contains_key
returns-then-contains_key c = inr (refl, used (heap_view c.args.heap.now) (fresh_view c.args.fresh.now) c.loop-address.heap c.args.fresh.now c.loop-address.address-index _ c.loop-address-test.true c.loop-address.invariant (sym c.contains_key.ensures ∙ c.if-contains_key.true))

pub loop-address-preserved : goal.loop-address-preserved
loop-address-preserved c = added (heap_view c.args.heap.now) (fresh_view c.args.fresh.now) c.loop-address.heap c.insert.new.self c.args.fresh.now c.loop-address.address-index _ c.loop-address-test.true c.loop-address.invariant (sym c.contains_key.ensures ∙ c.if-contains_key.false) c.new_object-object.result c.new_object-object.ensures.is c.new_object-object.ensures.at c.new_object-object.ensures.of c.in_ok-insert.ensures.updates.0
