use Rattle.std.proofs.Common.{arith}
use Rattle.machine.proofs.Moves.{pushes_item, pushes_none}
use Rattle.machine.proofs.stacking.+push_chosen.Goals as goal

pub returns-in_ok-push-in-len1-up : goal.returns-in_ok-push-in-len1-up
returns-in_ok-push-in-len1-up t c =
    pushes_item c.args.numbers.now c.in-len1-up.len_at_least c.args.stack.now c.args.after.now.items c.push_chosen.new.after.items c.in_ok-push_chosen-in-len1-up.ensures _ _ c.push.new.self.items (omega arith) (omega arith) c.in_ok-push-in-len1-up.ensures.items

pub returns-else-number-stack : goal.returns-else-number-stack
returns-else-number-stack t c =
    pushes_none c.args.numbers.now c.in-len1-up.len_at_least c.args.stack.now c.args.after.now.items c.push_chosen.new.after.items c.in_ok-push_chosen-in-len1-up.ensures (omega arith)
