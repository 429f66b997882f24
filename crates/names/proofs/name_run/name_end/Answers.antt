use Rattle.std.proofs.Common.{arith}
use Rattle.names.proofs.RunLaws.{up_to_first}
use Rattle.names.proofs.name_run.name_end.Goals as goal

pub returns-then-end-bytes : goal.returns-then-end-bytes
returns-then-end-bytes c =
    let set = c.if-ahead-ne0.true in
    up_to_first c.args.bytes.now c.args.start c.args.stops c.requires.behind c.requires.within (c.requires.stops c.if-bytes-gt16.true) c.ranges.stops.fits (omega (arith, set)) c.if-end-bytes.true
