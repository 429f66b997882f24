use Rattle.std.proofs.Common.{◌≡◌, ◌∙◌, get_or, ap, subst, arith}
use Rattle.blocks.specs.private.Trees.{level_of, IsFirstUndecidedBelow}
use Rattle.blocks.proofs.Arenas.{running_length, first_undecided}
use Rattle.blocks.proofs.row_trees.RowTrees.first_undecided.Goals as goal

pub returns-clause-first : goal.returns-clause-first
returns-clause-first c =
    let a = c.self.inside in
    let wanted = c.root_of-wanted.result in
    let root : wanted ≡ get_or a.declared.items c.args.row 0 =
    c.root_of-wanted.ensures ∙ ap (λ ids. get_or ids c.args.row 0) c.deref.ensures.value in
    first_undecided a.nodes.items a.own a.root a.kept a.count a.declared.items c.args.self.now c.self.invariant.arena c.self.view_is
    c.args.row wanted c.requires root c.args.from c.first_undecided_below.result
    (subst (λ ns. IsFirstUndecidedBelow ns (level_of ns a.root) a.root wanted c.args.from a.count c.first_undecided_below.result)
    c.deref-2.ensures.value c.first_undecided_below.ensures)

pub returns-clause-few : goal.returns-clause-few
returns-clause-few c =
    let a = c.self.inside in
    let long = running_length a.nodes.items a.root a.kept a.count a.declared.items c.args.self.now c.self.view_is in
    let few = c.self.invariant.arena.few in
    omega (arith, long, few)
