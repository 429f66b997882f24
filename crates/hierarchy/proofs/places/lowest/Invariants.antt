use Rattle.hierarchy.proofs.Ancestors.{IsLow}
use Rattle.hierarchy.proofs.places.lowest.Given as goal

abbrev pub invariant-loop-place : goal.invariant-loop-place
invariant-loop-place l = IsLow l.places l.place-index l.low
