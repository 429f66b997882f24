use Rattle.std.proofs.Common.{◌≡◌, ◌≤◌, List, Some, false, length, take}
use Rattle.std.specs.List.{list_any}
use Rattle.hierarchy.specs.private.Above.{number_of}
use Rattle.hierarchy.specs.private.FinalMethods.{HasFinals}
use Rattle.hierarchy.specs.private.MemberNumbers.{AreLookups}
use Rattle.hierarchy.specs.Class.{ClassFact}
use Rattle.hierarchy.specs.Nearest.{package_of}
use Rattle.hierarchy.specs.Overrides.{overrides_final}
use Rattle.hierarchy.specs.Rules.{IsHierarchy}
use Rattle.hierarchy.specs.Summary.{fact_of}
use Rattle.hierarchy.proofs.Overrides.{methods_among}
use Rattle.hierarchy.proofs.final_methods.FinalMethods.first.Given as goal

abbrev pub invariant-loop-i : goal.invariant-loop-i
invariant-loop-i l = record {
  asks : AreLookups l.self.numbers.members l.class.texts.items l.lookups;
  counted : l.count ≡ length (methods_among (take l.i (fact_of l.class).members));
  few : l.count ≤ l.i;
  none : (classes : List ClassFact) (c : ClassFact) → IsHierarchy classes → HasFinals classes l.self.numbers l.self.table.versions c l.limits.finals.now
      → l.limits.package ≡ number_of l.self.numbers.packages (package_of l.class.name.now) → (fact_of l.class).superclass ≡ Some c.name
      → list_any (overrides_final classes (fact_of l.class)) (methods_among (take l.i (fact_of l.class).members)) ≡ false;
}
