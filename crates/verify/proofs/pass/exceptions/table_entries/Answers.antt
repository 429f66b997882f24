use Rattle.std.proofs.Common.{refl}
use Rattle.frames.specs.Slots.{to_reference}
use Rattle.numbered_rules.proofs.Naming.{number_named}
use Rattle.verify.proofs.numbered.TableEntries.{made_more}
use Rattle.verify.proofs.pass.exceptions.table_entries.Goals as goal

pub loop-item-preserved : goal.loop-item-preserved
loop-item-preserved c = λ s m r.
    let named = number_named s to_reference c.in-Some.caught _ (c.in-Some.ensures s m r) in
    made_more s m.constant_pool c.args.table.now c.loop-item.item-index _ c.loop-item-test.true c.loop-item.entries.items (c.loop-item.invariant s m r) named.value named.is _
    (record { from = refl; to = refl; handler = refl; caught = named.number }) c.push.new.self.items c.in_ok-push.ensures.items
