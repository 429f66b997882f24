use Rattle.std.proofs.Common.{◌∙◌, arith}
use Rattle.blocks.proofs.Trees.{inner_below, number_below}
use Rattle.blocks.proofs.tree.+number.Goals as goal

pub number-requires : goal.number-requires
number-requires t c =
    let low = c.place_in.ensures.low in
    let one = inner_below c.args.nodes.now c.args.id c.place_in.result c.requires.forest c.requires.node low c.if-node-eq0.false in
    let less = one.1 in
    (omega (arith, c.decreases, less), (c.requires.forest, one.0))

pub returns : goal.returns
returns t c =
    c.number.ensures
    ∙ number_below c.args.nodes.now c.args.id c.args.slot c.place_in.result c.requires.forest c.requires.node c.place_in.ensures.place c.if-node-eq0.false
