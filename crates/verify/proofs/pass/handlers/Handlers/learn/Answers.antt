use Rattle.verify.specs.private.pass.Following.{Catches}
use Rattle.verify.proofs.numbered.Watched.{updated_all}
use Rattle.verify.proofs.pass.handlers.Handlers.learn.Goals as goal

pub returns-in_ok-insert-clause-caught : goal.returns-in_ok-insert-clause-caught
returns-in_ok-insert-clause-caught c = λ x catches are.
    updated_all (λ key one. Catches x one) c.args.self.now.caught c.insert.new.self c.key_of.result c.args.handler.now c.in_ok-insert.ensures.updates catches are
