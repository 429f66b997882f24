use Rattle.numbered_rules.proofs.AtOnce.{dropped}
use Rattle.numbered_rules.proofs.operands.drop_items.Goals as goal

pub loop-preserved : goal.loop-preserved
loop-preserved g c = dropped c.args.frames.now c.loop.frames c.pop.new.self c.loop.counter c.loop.invariant c.pop.result c.pop.ensures.taken
