use Rattle.std.proofs.Common.{length, refl, arith}
use Rattle.std.proofs.lemmas.Option.{slice_get_read}
use Rattle.verify.proofs.numbered.Starting.{later_starts}
use Rattle.verify.proofs.pass.handlers.Handlers.next.Goals as goal

pub returns-then-handler-at : goal.returns-then-handler-at
returns-then-handler-at c = λ x es before k place one behind there.
    let h = c.args.self.now in
    let start = later_starts h.by_start.items h.begun c.index-handler.result.now k.rises place one behind there c.index-handler.ensures in
    omega (arith, start, c.if-handler-at.true)

pub returns : goal.returns
returns c =
    let h = c.args.self.now in (
      slice_get_read h.by_start.items (length h.by_start.items) h.begun c.index-handler.result.now refl (omega (arith, c.if-self-len.false, c.len.ensures, h.by_start.ok.0)) c.index-handler.ensures,
      omega (arith, c.if-handler-at.false),
    )
