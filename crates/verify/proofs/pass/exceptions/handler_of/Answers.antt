use Rattle.std.proofs.Common.{arith}
use Rattle.verify.proofs.pass.exceptions.handler_of.Goals as goal

pub returns : goal.returns
returns g c = λ e is.
    let found = (c.in_ok-frame.ensures e is).outcome in
    let within = found.1.within in
    let all = c.requires.leads.all in
    record { outcome = (found.0, record { from = is.from; to = is.to; frame = found.1; caught = is.caught; lead = c.requires.leads.each c.in_ok-frame.frame (omega (arith, within, all)) }) }
