use Rattle.std.proofs.Common.{arith}
use Rattle.machine.proofs.Moves.{below}
use Rattle.machine.proofs.stacking.beneath_so_many.Goals as goal

pub returns : goal.returns
returns c = below c.args.stack.now c.args.count c.saturating_sub.result (omega arith)
