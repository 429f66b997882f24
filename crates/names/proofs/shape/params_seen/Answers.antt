use Rattle.std.proofs.Common.{◌<◌, arith}
use Rattle.names.proofs.ShapeSeen.{next_seen, all_seen}
use Rattle.names.proofs.shape.params_seen.Goals as goal

pub returns-then-first-eq41 : goal.returns-then-first-eq41
returns-then-first-eq41 c =
    let within = c.types.invariant.within in
    let more = c.if-at-bytes.false in
    all_seen c.args.bytes.now c.types.at c.types.units c.types.invariant (omega (arith, within, more)) c.if-first-eq41.true

pub types-preserved : goal.types-preserved
types-preserved c =
    let forth = c.type_end-end.ensures.forth in
    let some = c.if-end-at.false in
    let less : c.types.at < c.type_end-end.result = omega (arith, forth, some) in
    next_seen c.args.bytes.now c.types.at c.type_end-end.result c.types.units c.units_of-units.result c.types.invariant less (c.type_end-end.ensures.read less) c.units_of-units.ensures
