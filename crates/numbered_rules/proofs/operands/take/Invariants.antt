use Rattle.std.proofs.Common.{map}
use Rattle.hierarchy.specs.Answer.{outcome_of}
use Rattle.numbered_rules.proofs.Taking.{IsTaking}
use Rattle.numbered_rules.proofs.operands.take.Given as goal

abbrev pub invariant-loop-ask : goal.invariant-loop-ask
invariant-loop-ask g l = IsTaking (map g.A.Asked.asked l.asked) l.fn.frames l.frames l.ask-index (outcome_of l.so_far)
