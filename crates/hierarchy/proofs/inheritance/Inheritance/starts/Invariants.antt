use Rattle.std.proofs.Common.{◌≡◌, Some, length, slice_get}
use Rattle.hierarchy.specs.private.Ancestry.{facts_at}
use Rattle.hierarchy.specs.private.Inheritance.{LooksAt}
use Rattle.hierarchy.specs.private.TextNumbers.{OfEach}
use Rattle.hierarchy.specs.Class.{ClassFact}
use Rattle.hierarchy.proofs.inheritance.Inheritance.starts.Given as goal

abbrev pub invariant-loop-place : goal.invariant-loop-place
invariant-loop-place g l = record {
  long : length l.starts.items ≡ l.place;
  each : (a : ClassFact) → slice_get (facts_at l.self.ancestry.classes.items) l.class ≡ Some a
      → OfEach (LooksAt (g.C.Classes.content l.classes) l.self l.class a) l.names l.starts.items;
}
