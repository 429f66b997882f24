use Rattle.verify.specs.Plays.{AreFineBelow}
use Rattle.verify.proofs.play.first_refused.Given as goal

-- none so far is refused
abbrev pub invariant-loop-i : goal.invariant-loop-i
invariant-loop-i l = AreFineBelow l.methods l.i
