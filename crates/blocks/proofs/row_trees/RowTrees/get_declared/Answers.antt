use Rattle.std.proofs.Common.{◌≡◌, ◌∙◌, get_or, sym, ap}
use Rattle.blocks.specs.private.Trees.{level_of, number_at}
use Rattle.blocks.proofs.Arenas.{declared_slot}
use Rattle.blocks.proofs.row_trees.RowTrees.get_declared.Goals as goal

pub returns : goal.returns
returns c =
    let a = c.self.inside in
    let root : c.root_of-root.result ≡ get_or a.declared.items c.args.row 0 =
    c.root_of-root.ensures ∙ ap (λ ids. get_or ids c.args.row 0) c.deref.ensures.value in
    c.number.ensures
    ∙ ap (λ ns. number_at ns (level_of ns c.root_of-root.result) c.root_of-root.result c.args.slot) c.deref-2.ensures.value
    ∙ ap (λ n. number_at a.nodes.items (level_of a.nodes.items n) n c.args.slot) root
    ∙ sym (declared_slot a.nodes.items a.root a.kept a.count a.declared.items c.args.self.now c.self.view_is c.args.row c.args.slot
    c.requires.row c.requires.slot)
