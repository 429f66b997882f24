use Rattle.std.proofs.Common.{Some, refl, arith}
use Rattle.verify.proofs.Ways.{handler_is}
use Rattle.verify.proofs.difference_at.handler_way.Goals as goal

pub returns-clause-same : goal.returns-clause-same
returns-clause-same g c = λ s e is.
    handler_is s c.args.frames.now c.args.at e c.args.entry.now is
    (record { at = c.from.result; frame = c.in_ok-frame.frame; caught = Some c.args.entry.now.caught })
    (omega (arith, c.if-at-entry.false)) (omega (arith, c.if-at-entry-2.false)) c.in_ok-frame.ensures c.from.ensures refl
