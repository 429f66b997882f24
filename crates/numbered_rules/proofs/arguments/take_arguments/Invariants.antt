use Rattle.hierarchy.specs.Answer.{outcome_of}
use Rattle.numbered_rules.proofs.Calling.{IsLeft}
use Rattle.numbered_rules.proofs.arguments.take_arguments.Given as goal

abbrev pub invariant-loop-place : goal.invariant-loop-place
invariant-loop-place g l = IsLeft l.parameters l.receiver l.fn.frames l.frames l.place (outcome_of l.so_far)
