use Rattle.std.proofs.Common.{◌≤◌, ◌-◌, length}
use Rattle.hierarchy.specs.private.Ancestry.{facts_at}
use Rattle.hierarchy.specs.private.FinalMethods.{FinalSoFar}
use Rattle.hierarchy.proofs.final_methods.finals_of.Given as goal

abbrev pub invariant-loop-table : goal.invariant-loop-table
invariant-loop-table g l = record {
  begun : FinalSoFar (g.C.Classes.content l.classes) l.numbers l.table.versions (facts_at l.ancestry.classes.items) l.table.of.items;
  few : length l.table.of.items ≤ length l.ancestry.classes.items;
}

abbrev pub decreases-loop-table : goal.decreases-loop-table
decreases-loop-table g l = length l.ancestry.classes.items - length l.table.of.items
