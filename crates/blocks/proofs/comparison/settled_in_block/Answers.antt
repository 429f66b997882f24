use Rattle.std.proofs.Common.{inl, inr, rules}
use Rattle.blocks.proofs.Comparing.{settled_by_new}
use Rattle.blocks.proofs.Remembered.{settled_block}
use Rattle.blocks.proofs.comparison.settled_in_block.Goals.{then-id-wanted-via-then-id-wanted, then-id-wanted-via-else-id-wanted+then-is_seen}
use Rattle.blocks.proofs.comparison.settled_in_block.Goals as goal

pub returns-in-Some : goal.returns-in-Some
returns-in-Some c =
    settled_by_new c.args.nodes.now c.args.id c.args.wanted c.in-Some.seen c.args.slot c.first_lane-lane.result c.first_new_lane.result c.requires.wanted c.requires.level (search rules)
    c.first_lane-lane.ensures c.first_new_lane.ensures

pub returns-then-id-wanted : goal.returns-then-id-wanted
returns-then-id-wanted c =
    settled_block c.args.nodes.now c.args.id c.args.wanted c.args.slot c.requires.wanted c.requires.block c.requires.level
    (elim c.then-id-wanted.branch [
      | then-id-wanted-via-then-id-wanted w ↦ inl (search rules)
      | then-id-wanted-via-else-id-wanted+then-is_seen w ↦ inr (search rules)
    ])
