use Rattle.hierarchy.specs.Summary.{facts_of}
use Rattle.hierarchy.specs.Rules.{NoneBelow}
use Rattle.hierarchy.proofs.rules.first_breaking.Given as goal

abbrev pub invariant-loop-class : goal.invariant-loop-class
invariant-loop-class g l = NoneBelow (g.R.Rule.Breaks l.rule) (facts_of l.classes) l.class-index
