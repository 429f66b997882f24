use Rattle.std.proofs.Common.{◌+◌, refl, arith}
use Rattle.verify.proofs.numbered.Starting.{begun_more, follows_from, greater_of}
use Rattle.verify.proofs.pass.handlers.Handlers.begin.Goals as goal

pub loop-handler-preserved : goal.loop-handler-preserved
loop-handler-preserved c = λ x es k.
    let h = c.loop-handler.self in
    let one = c.in-Some.handler in
    let max = c.max-self.ensures in
    begun_more x es c.args.at h (c.loop-handler.invariant x es k) one c.max-self.result (h.begun + 1) c.in-Some.ensures.0 c.in-Some.ensures.1 (omega (arith, max)) (omega (arith, max)) (greater_of h.reach one.to c.max-self.result max) refl

pub returns : goal.returns
returns c = λ x es k.
    let now = c.loop-handler.invariant x es k in
    (follows_from x es c.args.at c.loop-handler.self now c.start_of_next-self.result (c.start_of_next-self.ensures x es c.args.at now), c.in_default.ensures x es c.args.at now)
