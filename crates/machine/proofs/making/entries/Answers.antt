use Rattle.std.proofs.Common.{◌∙◌}
use Rattle.machine.proofs.Entries.{entry_next}
use Rattle.machine.proofs.making.entries.Goals as goal

pub loop-handler-preserved : goal.loop-handler-preserved
loop-handler-preserved c = c.loop-handler.invariant ∙ entry_next c.args.pool.now c.args.table.now c.loop-handler.handler-index _ c.loop-handler-test.true c.loop-handler.entries.items c.push.new.self.items c.in-Some.found c.in_ok-push-in-Some.ensures.items c.in-Some.ensures
