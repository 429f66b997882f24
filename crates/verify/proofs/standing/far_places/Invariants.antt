-- The table leads so many steps on.
use Rattle.std.proofs.Common.{◌^◌}
use Rattle.hierarchy.specs.Summary.{facts_of}
use Rattle.verify.specs.private.EachSteps.{LeadsAhead}
use Rattle.verify.proofs.standing.far_places.Given as goal

abbrev pub invariant-loop : goal.invariant-loop
invariant-loop l = LeadsAhead (facts_of l.gathered.classes.items) (2 ^ l.counter) l.places.items
