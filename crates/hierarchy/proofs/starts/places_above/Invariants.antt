use Rattle.std.proofs.Common.{◌≡◌, length}
use Rattle.hierarchy.specs.private.Flags.{place_above}
use Rattle.hierarchy.specs.private.TextNumbers.{OfEach}
use Rattle.hierarchy.proofs.starts.places_above.Given as goal

abbrev pub invariant-loop-place : goal.invariant-loop-place
invariant-loop-place l = record {
  long : length l.above.items ≡ l.place;
  each : OfEach (λ name o. o ≡ place_above l.places l.class name) l.names l.above.items;
}
