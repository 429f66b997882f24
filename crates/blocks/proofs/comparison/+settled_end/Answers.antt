use Rattle.std.proofs.Common.{arith, rules}
use Rattle.blocks.proofs.Comparing.{both_below, settled_above}
use Rattle.blocks.proofs.Remembered.{settled_known}
use Rattle.blocks.proofs.comparison.+settled_end.Goals as goal

pub settled_end-requires : goal.settled_end-requires
settled_end-requires t c =
    let told = both_below c.args.nodes.now c.args.id c.args.wanted c.args.slot c.place_in-place.result 0 c.requires.forest c.requires.node c.requires.wanted c.requires.level c.if-node-eq0.false c.place_in-place.ensures.place in
    let less = told.0 in
    (omega (arith, c.decreases, less), (c.requires.forest, (told.1, (told.2, (told.3, c.requires.slot)))))

pub returns : goal.returns
returns t c =
    settled_above c.args.nodes.now c.args.id c.args.wanted c.args.slot c.place_in-place.result c.settled_end.result c.requires.forest c.requires.node c.requires.wanted c.requires.level c.if-node-eq0.false c.place_in-place.ensures.place c.settled_end.ensures

pub returns-then-is_known : goal.returns-then-is_known
returns-then-is_known t c =
    settled_known c.args.nodes.now c.args.id c.args.wanted c.requires.wanted c.requires.level (c.is_known.ensures c.if-is_known.true) c.args.slot c.end_of.result (search rules)
