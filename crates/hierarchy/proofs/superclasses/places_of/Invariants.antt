use Rattle.std.proofs.Common.{take}
use Rattle.hierarchy.specs.private.Above.{names_of, ArePlaces}
use Rattle.hierarchy.proofs.superclasses.places_of.Given as goal

abbrev pub invariant-loop-place : goal.invariant-loop-place
invariant-loop-place l = ArePlaces (take l.place (names_of l.names)) l.places
