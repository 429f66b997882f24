use Rattle.std.proofs.Common.{◌≡◌, ◌∙◌, get_or, ap, subst}
use Rattle.blocks.specs.private.Trees.{level_of, IsFirstUnequalBelow}
use Rattle.blocks.proofs.Arenas.{first_unequal_rows}
use Rattle.blocks.proofs.row_trees.RowTrees.first_unequal.Goals as goal

pub returns : goal.returns
returns c =
    let a = c.self.inside in
    let id = c.root_of-root.result in
    let beside = c.root_of-beside.result in
    let root : id ≡ get_or a.declared.items c.args.row 0 =
    c.root_of-root.ensures ∙ ap (λ ids. get_or ids c.args.row 0) c.deref.ensures.value in
    let there : beside ≡ get_or a.declared.items c.args.other 0 =
    c.root_of-beside.ensures ∙ ap (λ ids. get_or ids c.args.other 0) c.deref-2.ensures.value in
    first_unequal_rows a.nodes.items a.own a.root a.kept a.count a.declared.items c.args.self.now c.self.invariant.arena c.self.view_is
    c.args.row id c.args.other beside c.requires.row root c.requires.other there c.first_unequal_below.result
    (subst (λ ns. IsFirstUnequalBelow ns (level_of ns id) id beside 0 a.count c.first_unequal_below.result)
    c.deref-3.ensures.value c.first_unequal_below.ensures)
