use Rattle.std.proofs.Common.{refl}
use Rattle.verify.proofs.numbered.Watched.{fitting_pushed, goes_on_pushed, has_pushed}
use Rattle.verify.proofs.pass.watching.Wanted.want.Goals as goal

pub returns-clause-fitting : goal.returns-clause-fitting
returns-clause-fitting c = λ s given are.
    fitting_pushed s c.args.self.now (record c.args.self.now { places = c.insert.new.self; numbers = c.push.new.self }) c.args.number given c.in_ok-push.ensures.items refl are

pub returns-clause-more : goal.returns-clause-more
returns-clause-more c = goes_on_pushed c.args.self.now.numbers.items c.push.new.self.items c.args.number c.in_ok-push.ensures.items

pub returns-clause-wanted : goal.returns-clause-wanted
returns-clause-wanted c = has_pushed c.args.self.now.numbers.items c.push.new.self.items c.args.number c.in_ok-push.ensures.items

pub returns-then-has-clause-wanted : goal.returns-then-has-clause-wanted
returns-then-has-clause-wanted c = c.if-has.ensures refl
