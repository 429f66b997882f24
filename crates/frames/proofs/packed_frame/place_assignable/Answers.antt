use Rattle.std.proofs.Common.{◌∙◌, Some, sym, ap, arith}
use Rattle.frames.proofs.PlaceAnswers.{local_read, item_read}
use Rattle.frames.proofs.packed_frame.place_assignable.Goals as goal

pub returns-then-place-count : goal.returns-then-place-count
returns-then-place-count g c =
    local_read (g.C.Classes.content c.args.classes.now) c.args.from.now c.args.to.now c.requires.alike c.args.place _ _ (omega (arith, c.len-count.ensures, c.if-place-count.true)) c.index.ensures c.index-then-place-count.ensures
    ∙ ap Some (sym c.slot_assignable.ensures)

pub returns-else-place-count : goal.returns-else-place-count
returns-else-place-count g c =
    let count = c.len-count.ensures in
    let over = c.if-place-count.false in
    let within = c.requires.within in
    item_read (g.C.Classes.content c.args.classes.now) c.args.from.now c.args.to.now c.requires.alike _ c.args.place _ _ (omega (arith, count, over)) (omega (arith, count, over, within)) c.index-else-place-count.ensures c.index-else-place-count-2.ensures
    ∙ ap Some (sym c.slot_assignable-else-place-count.ensures)
