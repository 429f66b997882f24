use Rattle.std.proofs.Common.{◌≤◌, ◌<◌, arith}
use Rattle.blocks.proofs.Blocks.{in_the_first_eight, in_the_last_eight}
use Rattle.blocks.proofs.block.first_by_eight.Goals as goal

pub returns-then-decided-ne8 : goal.returns-then-decided-ne8
returns-then-decided-ne8 c =
    let decided = c.decided_lanes-decided.result in
    let few = c.decided_lanes-decided.ensures.few in
    let some = c.if-decided-ne8.true in
    let less : decided < 8 = omega (arith, few, some) in
    in_the_first_eight c.args.numbers.now c.args.wanted.now c.args.from decided c.requires.from c.decided_lanes-decided.ensures less

pub returns : goal.returns
returns c =
    let decided = c.decided_lanes-decided.result in
    let all = c.if-decided-ne8.false in
    let most : 8 ≤ decided = omega (arith, all) in
    in_the_last_eight c.args.numbers.now c.args.wanted.now c.args.from decided c.requires.from c.decided_lanes-decided.ensures most c.decided_lanes-last.result c.decided_lanes-last.ensures
