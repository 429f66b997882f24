use Rattle.std.proofs.Common.{◌≡◌, map, take}
use Rattle.hierarchy.specs.private.NumberedMembers.{HaveNumbers, KeepMembers}
use Rattle.hierarchy.specs.private.MemberNumbers.{AreMemberNumbers}
use Rattle.hierarchy.specs.private.TextNumbers.{AreGiven}
use Rattle.hierarchy.specs.Summary.{member_of}
use Rattle.hierarchy.proofs.numbered_members.number_members.Given as goal

abbrev pub invariant-loop-member : goal.invariant-loop-member
invariant-loop-member l = record {
  good : AreMemberNumbers l.numbers;
  given : AreGiven l.numbers.texts l.numbering;
  same : l.numbering.texts.now ≡ l.class.texts.items;
  numbered : HaveNumbers l.which l.numbers (map (member_of l.class.texts.items) (take l.member-index l.class.members.items));
  kept : KeepMembers l.initial.numbers l.numbers;
}
