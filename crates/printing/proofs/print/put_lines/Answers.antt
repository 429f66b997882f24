use Rattle.std.proofs.Common.{drop, ◌+◌}
use Rattle.std.specs.List.{flat_map}
use Rattle.printing.proofs.Writings.{item_left, with_left, one_more, stops_inside}
use Rattle.printing.proofs.print.put_lines.Goals as goal

pub returns-in-Err : goal.returns-in-Err
returns-in-Err g c =
    let held = g.W.Write.contents in
    let line = g.L.Lines.line c.args.lines.now in
    let item = c.item-item.result in
    let i = c.loop-item.item-index in
    let items = c.args.items.now in
    stops_inside (held c.args.out.now) (held c.loop-item.out) (held c.put_line.new.out) (flat_map line items) (line item) (flat_map line (drop (i + 1) items))
    (with_left _ _ _ _ _ (item_left line items i item c.loop-item-test.true c.item-item.is) c.loop-item.invariant) c.in-Err.ensures

pub loop-item-preserved : goal.loop-item-preserved
loop-item-preserved g c =
    let held = g.W.Write.contents in
    let line = g.L.Lines.line c.args.lines.now in
    let item = c.item-item.result in
    let i = c.loop-item.item-index in
    let items = c.args.items.now in
    one_more (held c.args.out.now) (held c.loop-item.out) (held c.put_line.new.out) (flat_map line items) (line item) (flat_map line (drop (i + 1) items))
    (with_left _ _ _ _ _ (item_left line items i item c.loop-item-test.true c.item-item.is) c.loop-item.invariant) c.in-Ok.ensures
