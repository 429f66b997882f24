use Rattle.std.proofs.Common.{arith}
use Rattle.names.proofs.RunLaws.{more_stops}
use Rattle.names.proofs.name_run.stops_in_front.Goals as goal

pub loop-at-preserved : goal.loop-at-preserved
loop-at-preserved c =
    let least = c.min-from.ensures in
    record {
      behind = omega arith;
      stops = more_stops c.args.bytes.now c.loop-at.at c.min-from.result c.loop-at.stops c.stops_in_sixteen.result c.loop-at.invariant.stops (omega (arith, least)) c.stops_in_sixteen.ensures.stops;
    }
