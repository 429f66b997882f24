use Rattle.std.proofs.Common.{◌∙◌, ap, arith}
use Rattle.machine.specs.Views.{stack_of}
use Rattle.machine.proofs.Moves.{below}
use Rattle.machine.proofs.stacking.drop_items.Goals as goal

pub returns : goal.returns
returns c = ap stack_of c.truncate.ensures.items ∙ below c.args.stack.now.items c.args.count c.saturating_sub.result (omega arith)
