use Rattle.std.proofs.Common.{◌∙◌, sym}
use Rattle.blocks.proofs.Arenas.{running_length, kept_long}
use Rattle.blocks.proofs.row_trees.RowTrees.slots.Goals as goal

pub returns-clause-count : goal.returns-clause-count
returns-clause-count c =
    let a = c.self.inside in
    sym (running_length a.nodes.items a.root a.kept a.count a.declared.items c.args.self.now c.self.view_is)

pub returns-clause-even : goal.returns-clause-even
returns-clause-even c =
    let a = c.self.inside in
    let long = running_length a.nodes.items a.root a.kept a.count a.declared.items c.args.self.now c.self.view_is in
    kept_long a.nodes.items a.own a.root a.kept a.count a.declared.items c.args.self.now c.self.invariant.arena c.self.view_is ∙ sym long
