use Rattle.std.proofs.Common.{◌≡◌, ◌++◌, ◌-◌, suc, length, Some, MatchOption, option_map}
use Rattle.std.specs.Option.{option_copied}
use Rattle.hierarchy.specs.private.Above.{upward}
use Rattle.hierarchy.specs.private.Ancestry.{AreInTurn, IsOwn, facts_at, first_or}
use Rattle.hierarchy.specs.Summary.{fact_of}
use Rattle.hierarchy.proofs.ancestry.Ancestry.way.Given as goal

abbrev pub invariant-loop-at : goal.invariant-loop-at
invariant-loop-at g l = record {
  up : let classes = g.C.Classes.content l.classes in
      upward classes (suc (length classes)) (Some (fact_of l.start)) ≡ facts_at l.way.items ++ upward classes (suc (length classes) - length l.way.items) (option_map fact_of (option_copied l.at));
  turn : AreInTurn (g.C.Classes.content l.classes) (facts_at l.way.items) (option_map fact_of (option_copied l.at));
  first : first_or (option_map fact_of (option_copied l.at)) (facts_at l.way.items) ≡ Some (fact_of l.start);
  own : MatchOption (option_map fact_of (option_copied l.at)) (Unit {0}) (IsOwn (g.C.Classes.content l.classes));
}

abbrev pub decreases-loop-at : goal.decreases-loop-at
decreases-loop-at g l = suc (length (g.C.Classes.content l.classes)) - length l.way.items
