use Rattle.std.proofs.Common.{◌≡◌, ◌≢◌, ◌∙◌, sym, ap, arith}
use Rattle.std.proofs.lemmas.List.{get_or_read}
use Rattle.std.proofs.lemmas.Result.{IfOk-weaker}
use Rattle.blocks.specs.private.Blocks.{place_in}
use Rattle.blocks.specs.private.Trees.{no_node, node_at, level_of}
use Rattle.blocks.proofs.Trees.{own_inside, own_level, own_keeps, own_path}
use Rattle.blocks.proofs.tree.+own_block_below.Goals as goal

pub own_block_below-requires : goal.own_block_below-requires
own_block_below-requires t c =
    let ns = c.args.nodes.now.items in
    let ms = c.own_below.new.nodes.items in
    let id = c.args.id in
    let told = c.in_ok-below.ensures in
    let n : c.index.result.now ≡ node_at ns id = get_or_read ns id c.index.result.now c.requires.node c.index.ensures no_node in
    let up : level_of ns id ≢ 0 = λ z. c.if-level-eq0.false (ap (λ m. m.level) n ∙ z) in
    let at : c.place_in.result ≡ place_in c.args.slot (level_of ns id) = c.place_in.ensures.place ∙ ap (λ m. place_in c.args.slot m.level) n in
    let level = own_level ns ms ns c.args.own id c.place_in.result c.in_ok-below.below c.args.slot c.requires.node up at told.kept told.tree told.ok in
    let inside = own_inside ns ms ns c.args.own id c.place_in.result c.in_ok-below.below c.args.slot c.requires.node up at told.kept told.tree told.ok in
    (omega (arith, c.decreases, level), (told.tree, (inside, told.ok.own_node)))

pub returns-clause-kept : goal.returns-clause-kept
returns-clause-kept t c =
    let ns = c.args.nodes.now.items in
    let id = c.args.id in
    let told = c.in_ok-below.ensures in
    let n : c.index.result.now ≡ node_at ns id = get_or_read ns id c.index.result.now c.requires.node c.index.ensures no_node in
    own_keeps ns c.own_below.new.nodes.items c.own_block_below.new.nodes.items c.args.own id c.place_in.result c.in_ok-below.below c.args.slot c.requires.node
    (λ z. c.if-level-eq0.false (ap (λ m. m.level) n ∙ z)) (c.place_in.ensures.place ∙ ap (λ m. place_in c.args.slot m.level) n) told.kept told.tree told.ok c.own_block_below.ensures.kept

pub returns-clause-ok : goal.returns-clause-ok
returns-clause-ok t c =
    let ns = c.args.nodes.now.items in
    let id = c.args.id in
    let told = c.in_ok-below.ensures in
    let n : c.index.result.now ≡ node_at ns id = get_or_read ns id c.index.result.now c.requires.node c.index.ensures no_node in
    let path = own_path ns c.own_below.new.nodes.items c.own_block_below.new.nodes.items c.args.own id c.place_in.result c.in_ok-below.below c.args.slot c.requires.node
    (λ z. c.if-level-eq0.false (ap (λ m. m.level) n ∙ z)) (c.place_in.ensures.place ∙ ap (λ m. place_in c.args.slot m.level) n) told.kept told.tree told.ok c.own_block_below.ensures.kept c.own_block_below.ensures.tree in
    IfOk-weaker c.own_block_below.result _ _ (λ block h. (h.0, sym path ∙ h.1)) c.own_block_below.ensures.ok
