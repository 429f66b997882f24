use Rattle.std.proofs.Common.{◌∙◌, subst, sym, arith}
use Rattle.blocks.specs.private.Trees.{level_of, IsFirstUnequalBelow}
use Rattle.blocks.proofs.Arenas.{running_length, kept_long, first_changed}
use Rattle.blocks.proofs.row_trees.RowTrees.first_changed.Goals as goal

pub returns-clause-first : goal.returns-clause-first
returns-clause-first c =
    let a = c.self.inside in
    first_changed a.nodes.items a.own a.root a.kept a.count a.declared.items c.args.self.now c.self.invariant.arena c.self.view_is
    c.args.from c.first_unequal_below.result
    (subst (λ ns. IsFirstUnequalBelow ns (level_of ns a.root) a.root a.kept c.args.from a.count c.first_unequal_below.result)
    c.deref.ensures.value c.first_unequal_below.ensures)

pub returns-clause-even : goal.returns-clause-even
returns-clause-even c =
    let a = c.self.inside in
    let long = running_length a.nodes.items a.root a.kept a.count a.declared.items c.args.self.now c.self.view_is in
    kept_long a.nodes.items a.own a.root a.kept a.count a.declared.items c.args.self.now c.self.invariant.arena c.self.view_is ∙ sym long

pub returns-clause-few : goal.returns-clause-few
returns-clause-few c =
    let a = c.self.inside in
    let long = running_length a.nodes.items a.root a.kept a.count a.declared.items c.args.self.now c.self.view_is in
    let few = c.self.invariant.arena.few in
    omega (arith, long, few)
