use Rattle.verify.specs.private.pass.Watching.{FitUpTo}
use Rattle.verify.proofs.pass.watching.Wanted.fit_from.Given as goal

abbrev pub invariant-loop-i : goal.invariant-loop-i
invariant-loop-i g l = FitUpTo l.frames.types l.number l.i l.self.numbers.items
