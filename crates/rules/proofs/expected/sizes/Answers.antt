use Rattle.rules.proofs.Elements.{filled_up}
use Rattle.rules.proofs.expected.sizes.Goals as goal

pub returns : goal.returns
returns c = filled_up c.args.count _ _ _ _ c.from.ensures c.new-expected_types.ensures.len c.new-expected_types.ensures.items c.in_ok-resize.ensures.items
