use Rattle.std.proofs.Common.{◌≡◌, Some, map, slice_get, take}
use Rattle.hierarchy.specs.private.Ancestry.{facts_at}
use Rattle.hierarchy.specs.private.MemberNumbers.{AreLookups}
use Rattle.hierarchy.specs.Class.{ClassFact}
use Rattle.hierarchy.specs.Nearest.{is_guarded}
use Rattle.hierarchy.specs.Summary.{reference_of}
use Rattle.hierarchy.proofs.inheritance.Inheritance.guarded.Given as goal

abbrev pub invariant-loop-reference : goal.invariant-loop-reference
invariant-loop-reference g l = record {
  asks : AreLookups l.self.numbers l.references.texts.items l.lookups;
  answered : (c : ClassFact) → slice_get (facts_at l.self.ancestry.classes.items) l.class ≡ Some c
      → l.answers.items ≡ map (λ r. is_guarded (g.C.Classes.content l.classes) c.name (reference_of l.references r)) (take l.reference-index l.references.members.items);
}
