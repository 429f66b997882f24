use Rattle.std.proofs.Common.{arith}
use Rattle.names.proofs.RunLaws.{past_all, up_to_stop}
use Rattle.names.proofs.name_run.run_end.Goals as goal

pub returns-then-stops-ne0 : goal.returns-then-stops-ne0
returns-then-stops-ne0 c =
    let long = c.if-bytes-le16.false in
    let less = c.loop-at-test.true in
    let least = c.min-from.ensures in
    let set = c.if-stops-ne0.true in
    up_to_stop c.args.bytes.now c.args.start c.loop-at.at c.min-from.result c.stops_in_sixteen.result c.loop-at.invariant (omega (arith, least)) (omega (arith, least, less)) (omega (arith, least, long))
    c.stops_in_sixteen.ensures.few c.stops_in_sixteen.ensures.stops (omega (arith, set))

pub loop-at-preserved : goal.loop-at-preserved
loop-at-preserved c =
    let long = c.if-bytes-le16.false in
    let less = c.loop-at-test.true in
    let least = c.min-from.ensures in
    past_all c.args.bytes.now c.args.start c.loop-at.at c.min-from.result c.stops_in_sixteen.result c.loop-at.invariant (omega (arith, least)) (omega (arith, least, less)) (omega (arith, least, long))
    c.stops_in_sixteen.ensures.few c.stops_in_sixteen.ensures.stops c.if-stops-ne0.false
