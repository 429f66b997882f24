use Rattle.std.proofs.Common.{◌-◌, get_or, length, take, drop, subst, sym, arith}
use Rattle.method_frames.specs.private.Moves.{Pushes}
use Rattle.method_frames.proofs.ItemMoves.{first_and_others, pushes_item, pushes_none}
use Rattle.method_frames.proofs.rearranging.+push_chosen.Goals as goal

pub returns-in_ok-push-in-len1-up : goal.returns-in_ok-push-in-len1-up
returns-in_ok-push-in-len1-up t c =
    let ns = c.args.places.now in
    subst (λ z. Pushes z c.args.stack.now.items c.push.new.self.items) (sym (first_and_others ns 0 c.in-len1-up.len_at_least))
    (pushes_item (get_or ns 0 0) (take (length ns - 1) (drop 1 ns)) c.args.stack.now.items c.push_chosen.new.stack.items c.in_ok-push_chosen-in-len1-up.ensures (c.len-height.result - 1 - get_or ns 0 0) c.index-item.result.now c.index-item.result.now c.push.new.self.items (omega arith) (omega arith) c.index-item.ensures c.in_ok-push-in-len1-up.ensures.items)

pub returns-else-place-height : goal.returns-else-place-height
returns-else-place-height t c =
    let ns = c.args.places.now in
    subst (λ z. Pushes z c.args.stack.now.items c.push_chosen.new.stack.items) (sym (first_and_others ns 0 c.in-len1-up.len_at_least))
    (pushes_none (get_or ns 0 0) (take (length ns - 1) (drop 1 ns)) c.args.stack.now.items c.push_chosen.new.stack.items c.in_ok-push_chosen-in-len1-up.ensures (omega arith))
