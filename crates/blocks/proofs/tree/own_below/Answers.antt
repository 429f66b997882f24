use Rattle.blocks.proofs.Trees.{own_read}
use Rattle.blocks.proofs.tree.own_below.Goals as goal

pub returns-clause-tree : goal.returns-clause-tree
returns-clause-tree c =
    let told = own_read c.args.nodes.now.items c.copy.new.nodes.items c.args.own c.args.id c.args.place c.in_ok-copy.copy
    c.index.result.now c.index_mut.result.now c.requires.tree c.requires.node c.requires.alone c.requires.inner
    c.requires.place c.index.ensures c.index_mut.ensures.value c.if-below-own.false c.in_ok-copy.ensures.ok in
    told.tree

pub returns-clause-kept : goal.returns-clause-kept
returns-clause-kept c =
    let told = own_read c.args.nodes.now.items c.copy.new.nodes.items c.args.own c.args.id c.args.place c.in_ok-copy.copy
    c.index.result.now c.index_mut.result.now c.requires.tree c.requires.node c.requires.alone c.requires.inner
    c.requires.place c.index.ensures c.index_mut.ensures.value c.if-below-own.false c.in_ok-copy.ensures.ok in
    told.kept
