use Rattle.std.proofs.Common.{◌≡◌, ◌<◌, ◌%◌, length, subst, sym, rules}
use Rattle.std.proofs.lemmas.List.{get_or_read}
use Rattle.blocks.specs.private.Trees.{node_at, level_of, IsTree, IsPut, Keeps}
use Rattle.blocks.proofs.Trees.{keeps_all, put_below, redirected}
use Rattle.blocks.proofs.Putting.{block_there, stored_tree, stored}
use Rattle.blocks.proofs.tree.put.Goals as goal

pub returns-in_err-block-clause-err : goal.returns-in_err-block-clause-err
returns-in_err-block-clause-err c =
    let o = c.in_ok-now.ensures.ok in
    let k = subst (Keeps c.owned.new.nodes.items c.own_block.new.nodes.items) o.alike c.in_err-block.ensures.kept in
    let kept = keeps_all c.args.nodes.now.items c.owned.new.nodes.items c.own_block.new.nodes.items (level_of c.args.nodes.now.items c.args.id) (o.kept _) k in
    search rules

pub index_mut-requires : goal.index_mut-requires
index_mut-requires c =
    let told = c.in_ok-block.ensures.ok in
    let there : c.in_ok-block.block < length c.own_block.new.nodes.items =
    block_there c.args.nodes.now.items c.owned.new.nodes.items c.own_block.new.nodes.items c.args.own c.args.id c.args.slot c.args.number c.in_ok-now.now c.in_ok-block.block
    c.requires.tree c.in_ok-now.ensures.ok c.in_ok-block.ensures.kept c.in_ok-block.ensures.tree told.0 told.1 in
    search rules

pub returns-clause-tree : goal.returns-clause-tree
returns-clause-tree c =
    let bs = c.own_block.new.nodes.items in
    let block = c.in_ok-block.block in
    let told = c.in_ok-block.ensures.ok in
    let there : block < length bs = block_there c.args.nodes.now.items c.owned.new.nodes.items bs c.args.own c.args.id c.args.slot c.args.number c.in_ok-now.now block
    c.requires.tree c.in_ok-now.ensures.ok c.in_ok-block.ensures.kept c.in_ok-block.ensures.tree told.0 told.1 in
    let at : c.index_mut.result.now ≡ node_at bs block = search (rules, get_or_read) in
    subst (λ n. IsTree (put_below bs block (c.args.slot % 16) c.args.number n) c.args.own) (sym at)
    (stored_tree c.args.nodes.now.items c.owned.new.nodes.items bs c.args.own c.args.id c.args.slot c.args.number c.in_ok-now.now block
    c.requires.tree c.in_ok-now.ensures.ok c.in_ok-block.ensures.kept c.in_ok-block.ensures.tree told.0 told.1 _ (redirected bs block (c.args.slot % 16) c.args.number there))

pub returns-clause-ok : goal.returns-clause-ok
returns-clause-ok c =
    let bs = c.own_block.new.nodes.items in
    let block = c.in_ok-block.block in
    let told = c.in_ok-block.ensures.ok in
    let there : block < length bs = block_there c.args.nodes.now.items c.owned.new.nodes.items bs c.args.own c.args.id c.args.slot c.args.number c.in_ok-now.now block
    c.requires.tree c.in_ok-now.ensures.ok c.in_ok-block.ensures.kept c.in_ok-block.ensures.tree told.0 told.1 in
    let at : c.index_mut.result.now ≡ node_at bs block = search (rules, get_or_read) in
    subst (λ n. IsPut c.args.nodes.now.items (put_below bs block (c.args.slot % 16) c.args.number n) c.args.own c.args.id c.args.slot c.args.number c.in_ok-now.now) (sym at)
    (stored c.args.nodes.now.items c.owned.new.nodes.items bs c.args.own c.args.id c.args.slot c.args.number c.in_ok-now.now block
    c.requires.tree c.in_ok-now.ensures.ok c.in_ok-block.ensures.kept c.in_ok-block.ensures.tree told.0 told.1 _ (redirected bs block (c.args.slot % 16) c.args.number there) c.requires.slot)
