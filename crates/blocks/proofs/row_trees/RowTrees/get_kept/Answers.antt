use Rattle.std.proofs.Common.{◌∙◌, get_or, sym, ap, arith}
use Rattle.blocks.specs.private.Trees.{level_of, number_at}
use Rattle.blocks.proofs.Arenas.{running_length, row_slot}
use Rattle.blocks.proofs.row_trees.RowTrees.get_kept.Goals as goal

pub returns : goal.returns
returns c =
    let a = c.self.inside in
    let long = running_length a.nodes.items a.root a.kept a.count a.declared.items c.args.self.now c.self.view_is in
    let lt = c.requires in
    c.number.ensures
    ∙ ap (λ ns. number_at ns (level_of ns a.kept) a.kept c.args.slot) c.deref.ensures.value
    ∙ sym (row_slot a.nodes.items a.count a.kept c.args.slot (omega (arith, long, lt)))
    ∙ ap (λ r. get_or r.kept c.args.slot 0) c.self.view_is
