use Rattle.std.proofs.Common.{arith}
use Rattle.frames.proofs.SlotRows.{decided_on, stops_on}
use Rattle.frames.proofs.slot_comparison.first_undecided.Goals as goal

pub returns-then-decided-lt8 : goal.returns-then-decided-lt8
returns-then-decided-lt8 c =
    let a = c.args.a.now in
    let b = c.args.b.now in
    let at = c.loop-at.at in
    let r = c.decided_lanes-decided.result in
    let lanes = c.decided_lanes-decided.ensures in
    let ahead = c.loop-at.invariant.ahead in
    let less = c.if-decided-lt8.true in
    let room = c.if-a-at-ge8.true in
    (omega (arith, ahead), omega (arith, less, room), stops_on a b at r lanes less, decided_on a b at r lanes c.args.from c.loop-at.invariant.decided)

pub loop-at-preserved : goal.loop-at-preserved
loop-at-preserved c =
    let ahead = c.loop-at.invariant.ahead in
    record {
      ahead = omega (arith, ahead);
      decided = decided_on c.args.a.now c.args.b.now c.loop-at.at c.decided_lanes-decided.result c.decided_lanes-decided.ensures c.args.from c.loop-at.invariant.decided;
    }
