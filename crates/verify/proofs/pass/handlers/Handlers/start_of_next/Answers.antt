use Rattle.std.proofs.Common.{arith}
use Rattle.std.proofs.lemmas.Option.{slice_get_within}
use Rattle.verify.proofs.numbered.Starting.{later_starts}
use Rattle.verify.proofs.pass.handlers.Handlers.start_of_next.Goals as goal

pub returns-then-self-len : goal.returns-then-self-len
returns-then-self-len c = λ x es before k place one behind there.
    let within = slice_get_within c.args.self.now.by_start.items place one there in
    absurd (omega (arith, within, behind, c.if-self-len.true, c.len.ensures))

pub returns : goal.returns
returns c = λ x es before k place one behind there.
    let h = c.args.self.now in
    later_starts h.by_start.items h.begun c.index.result.now k.rises place one behind there c.index.ensures
