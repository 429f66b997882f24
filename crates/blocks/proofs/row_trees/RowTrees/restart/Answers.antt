use Rattle.std.proofs.Common.{◌∙◌, [], ap, subst, rules}
use Rattle.blocks.specs.private.Arenas.{rows_of, IsArena}
use Rattle.blocks.proofs.Arenas.{empty_arena, empty_rows}
use Rattle.blocks.proofs.Outcomes.{none_replaced}
use Rattle.blocks.proofs.row_trees.RowTrees.restart.Goals as goal

pub invariant_of-self : goal.invariant_of-self
invariant_of-self c =
    let top = c.top_of-top.ensures in
    record {
      arena =
          subst (IsArena c.clear.new.nodes.items 4 c.top_of-top.result c.top_of-top.result c.args.count) (search rules)
          (empty_arena c.clear.new.nodes.items c.top_of-top.result c.args.count top.low c.ranges.count.fits top.wide c.clear.ensures);
      replaced = none_replaced c.clear.new.nodes.items 4 c.clear-3.new.self c.clear-3.ensures;
    }

pub returns : goal.returns
returns c =
    let top = c.top_of-top.ensures in
    ap (rows_of c.clear.new.nodes.items c.top_of-top.result c.top_of-top.result c.args.count) {y = []} (search rules)
    ∙ empty_rows c.clear.new.nodes.items c.top_of-top.result c.args.count top.low c.ranges.count.fits top.wide c.clear.ensures
