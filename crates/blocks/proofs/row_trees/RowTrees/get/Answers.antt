use Rattle.std.proofs.Common.{◌∙◌, sym, ap}
use Rattle.blocks.specs.private.Trees.{level_of, number_at}
use Rattle.blocks.proofs.Arenas.{running_slot}
use Rattle.blocks.proofs.row_trees.RowTrees.get.Goals as goal

pub returns : goal.returns
returns c =
    let a = c.self.inside in
    c.number.ensures
    ∙ ap (λ ns. number_at ns (level_of ns a.root) a.root c.args.slot) c.deref.ensures.value
    ∙ sym (running_slot a.nodes.items a.root a.kept a.count a.declared.items c.args.self.now c.self.view_is c.args.slot c.requires)
