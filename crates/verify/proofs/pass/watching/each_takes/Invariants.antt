use Rattle.verify.specs.private.pass.Representatives.{TakesLocal}
use Rattle.verify.proofs.numbered.Representing.{AllTo}
use Rattle.verify.proofs.pass.watching.each_takes.Given as goal

abbrev pub invariant-loop-i : goal.invariant-loop-i
invariant-loop-i g l = AllTo (λ f. TakesLocal l.frames.types l.frames.declared f l.place l.number) l.list l.i
