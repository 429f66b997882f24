use Rattle.std.proofs.Common.{◌∙◌, ◌<◌, ◌+◌, ◌++◌, [], Option, ℕ, length, drop, ap, sym, arith}
use Rattle.std.specs.List.{flat_map}
use Rattle.std.specs.Option.{option_map_or}
use Rattle.classfile.specs.LayoutViews.{numbers_view}
use Rattle.classfile.specs.Numbers.{first_of, first_column, rows_of}
use Rattle.printing.specs.Classes.{permits_line}
use Rattle.printing.proofs.FirstColumn.{column_left}
use Rattle.printing.proofs.Writings.{with_left, one_more, stops_inside}
use Rattle.printing.proofs.class_attributes.put_permitted.Goals as goal

pub loop-row-preserved : goal.loop-row-preserved
loop-row-preserved g c =
    let held = g.W.Write.contents in
    let line = permits_line c.args.pool.now in
    let rows = rows_of (numbers_view c.args.permitted.now) in
    let here : c.loop-row.row < length rows = omega (arith, c.loop-row-test.true, c.rows-row-end.ensures) in
    let others = flat_map line (flat_map first_of (drop (c.loop-row.row + 1) rows)) in
    let left = column_left line rows c.loop-row.row here ∙ ap (λ (o : Option ℕ). option_map_or line o [] ++ others) (sym c.get.ensures) in
    one_more (held c.args.out.now) (held c.loop-row.out) (held c.put_index.new.out) (flat_map line (first_column (numbers_view c.args.permitted.now))) (option_map_or line c.get.result []) others
    (with_left _ _ _ _ _ left c.loop-row.invariant) c.in-Ok.ensures

pub returns-in-Err : goal.returns-in-Err
returns-in-Err g c =
    let held = g.W.Write.contents in
    let line = permits_line c.args.pool.now in
    let rows = rows_of (numbers_view c.args.permitted.now) in
    let here : c.loop-row.row < length rows = omega (arith, c.loop-row-test.true, c.rows-row-end.ensures) in
    let others = flat_map line (flat_map first_of (drop (c.loop-row.row + 1) rows)) in
    let left = column_left line rows c.loop-row.row here ∙ ap (λ (o : Option ℕ). option_map_or line o [] ++ others) (sym c.get.ensures) in
    stops_inside (held c.args.out.now) (held c.loop-row.out) (held c.put_index.new.out) (flat_map line (first_column (numbers_view c.args.permitted.now))) (option_map_or line c.get.result []) others
    (with_left _ _ _ _ _ left c.loop-row.invariant) c.in-Err.ensures
