use Rattle.verify.proofs.numbered.Starting.{ahead_of}
use Rattle.verify.proofs.pass.handlers.Handlers.come_to.Goals as goal

pub returns-else-at-self : goal.returns-else-at-self
returns-else-at-self c = λ x es k. (k, ahead_of x es c.args.at c.args.self.now k c.if-at-self.false)
