use Rattle.std.proofs.Common.{arith}
use Rattle.blocks.proofs.Comparing.{both_below, equal_above}
use Rattle.blocks.proofs.comparison.+equal_end.Goals as goal

pub equal_end-requires : goal.equal_end-requires
equal_end-requires t c =
    let told = both_below c.args.nodes.now c.args.id c.args.other c.args.slot c.place_in-place.result 0 c.requires.forest c.requires.node c.requires.other c.requires.level c.if-node-eq0.false c.place_in-place.ensures.place in
    let less = told.0 in
    (omega (arith, c.decreases, less), (c.requires.forest, (told.1, (told.2, (told.3, c.requires.slot)))))

pub returns : goal.returns
returns t c =
    equal_above c.args.nodes.now c.args.id c.args.other c.args.slot c.place_in-place.result c.equal_end.result c.requires.forest c.requires.node c.requires.other c.requires.level c.if-node-eq0.false c.place_in-place.ensures.place c.equal_end.ensures
