use Rattle.std.proofs.Common.{◌≤◌, drop, length, map}
use Rattle.hierarchy.specs.declared.member_numbers.MemberNumbers.{MemberNumbers}
use Rattle.hierarchy.specs.private.Inheritance.{AreValues}
use Rattle.hierarchy.specs.private.MemberNumbers.{AreLookups, AreMemberNumbers}
use Rattle.hierarchy.specs.private.Versions.{Most}
use Rattle.hierarchy.specs.Summary.{member_of}
use Rattle.hierarchy.proofs.inheritance.values_of.Given as goal

abbrev pub invariant-loop-left : goal.invariant-loop-left
invariant-loop-left l = record {
  found : (numbers : MemberNumbers) → AreLookups numbers l.class.texts.items l.initial.lookups → AreLookups numbers l.class.texts.items l.lookups;
  among : (numbers : MemberNumbers) × AreLookups numbers l.class.texts.items l.lookups;
  values : (numbers : MemberNumbers) → AreMemberNumbers numbers → AreLookups numbers l.class.texts.items l.initial.lookups
      → AreValues numbers l.sketches (map (member_of l.class.texts.items) (drop l.left l.class.members.items)) l.own l.puts.items;
  most : Most l.most l.puts.items;
  within : l.left ≤ length l.class.members.items;
}

abbrev pub decreases-loop-left : goal.decreases-loop-left
decreases-loop-left l = l.left
