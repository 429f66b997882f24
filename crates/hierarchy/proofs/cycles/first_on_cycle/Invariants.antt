use Rattle.hierarchy.specs.Summary.{facts_of}
use Rattle.hierarchy.proofs.Ancestors.{IsDoubled}
use Rattle.hierarchy.proofs.cycles.first_on_cycle.Given as goal

abbrev pub invariant-loop-left : goal.invariant-loop-left
invariant-loop-left g l = IsDoubled (facts_of l.classes) l.left l.places.items

abbrev pub decreases-loop-left : goal.decreases-loop-left
decreases-loop-left g l = l.left
