use Rattle.std.proofs.Common.{◌∙◌, ap, subst, sym}
use Rattle.blocks.specs.private.Arenas.{rows_of, IsArena}
use Rattle.blocks.proofs.Arenas.{empty_arena, empty_rows}
use Rattle.blocks.proofs.Outcomes.{none_replaced}
use Rattle.blocks.proofs.row_trees.RowTrees.new.Goals as goal

pub invariant_of-result : goal.invariant_of-result
invariant_of-result c =
    let top = c.top_of-top.ensures in
    record {
      arena =
          subst (IsArena c.in_ok-empty_nodes.field-0.items 4 c.top_of-top.result c.top_of-top.result c.args.count) (sym c.new.ensures.items)
          (empty_arena c.in_ok-empty_nodes.field-0.items c.top_of-top.result c.args.count top.low c.ranges.count.fits top.wide
          c.in_ok-empty_nodes.ensures);
      replaced = none_replaced c.in_ok-empty_nodes.field-0.items 4 c.new-2.result c.new-2.ensures;
    }

pub returns : goal.returns
returns c =
    let top = c.top_of-top.ensures in
    ap (rows_of c.in_ok-empty_nodes.field-0.items c.top_of-top.result c.top_of-top.result c.args.count) c.new.ensures.items
    ∙ empty_rows c.in_ok-empty_nodes.field-0.items c.top_of-top.result c.args.count top.low c.ranges.count.fits top.wide
    c.in_ok-empty_nodes.ensures
