use Rattle.blocks.proofs.Blocks.{equal_on}
use Rattle.blocks.proofs.block.equal_lanes.Goals as goal

pub returns-clause-few : goal.returns-clause-few
returns-clause-few c = c.decided_lanes.ensures.few

pub returns-clause-equal : goal.returns-clause-equal
returns-clause-equal c = equal_on 4294967295 c.args.numbers.now c.args.others.now c.args.from _ c.decided_lanes.ensures
