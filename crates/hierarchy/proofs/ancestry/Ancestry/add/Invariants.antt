use Rattle.std.proofs.Common.{length}
use Rattle.hierarchy.specs.private.Ancestry.{EndsBelow, IsAncestry, KeepClasses, facts_at}
use Rattle.hierarchy.specs.Summary.{fact_of}
use Rattle.hierarchy.proofs.ancestry.Ancestry.add.Given as goal

abbrev pub invariant-loop-class : goal.invariant-loop-class
invariant-loop-class g l = record {
  good : IsAncestry (g.C.Classes.content l.classes) l.self;
  way : EndsBelow (g.C.Classes.content l.classes) l.self (fact_of l.class) (facts_at l.way.items);
  kept : KeepClasses l.initial.self l.self;
}

abbrev pub decreases-loop-class : goal.decreases-loop-class
decreases-loop-class g l = length l.way.items
