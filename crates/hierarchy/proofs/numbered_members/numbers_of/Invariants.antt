use Rattle.std.proofs.Common.{take}
use Rattle.hierarchy.specs.private.Ancestry.{facts_at}
use Rattle.hierarchy.specs.private.NumberedMembers.{NumberAll}
use Rattle.hierarchy.specs.private.MemberNumbers.{AreMemberNumbers}
use Rattle.hierarchy.proofs.numbered_members.numbers_of.Given as goal

abbrev pub invariant-loop-place : goal.invariant-loop-place
invariant-loop-place l = record {
  good : AreMemberNumbers l.numbers;
  numbered : NumberAll l.which l.numbers (facts_at (take l.place l.ancestry.classes.items));
}
