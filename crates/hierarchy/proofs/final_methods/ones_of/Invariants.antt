use Rattle.std.proofs.Common.{take}
use Rattle.hierarchy.specs.declared.member_numbers.MemberNumbers.{MemberNumbers}
use Rattle.hierarchy.specs.private.FinalMethods.{AreOnes}
use Rattle.hierarchy.specs.private.MemberNumbers.{AreLookups, AreMemberNumbers}
use Rattle.hierarchy.specs.private.Versions.{Most}
use Rattle.hierarchy.specs.Summary.{fact_of}
use Rattle.hierarchy.proofs.final_methods.ones_of.Given as goal

abbrev pub invariant-loop-i : goal.invariant-loop-i
invariant-loop-i l = record {
  found : (numbers : MemberNumbers) → AreLookups numbers l.class.texts.items l.initial.lookups → AreLookups numbers l.class.texts.items l.lookups;
  among : (numbers : MemberNumbers) × AreLookups numbers l.class.texts.items l.lookups;
  ones : (numbers : MemberNumbers) → AreMemberNumbers numbers → AreLookups numbers l.class.texts.items l.initial.lookups → AreOnes numbers (take l.i (fact_of l.class).members) l.part l.puts.items;
  most : Most l.most l.puts.items;
}
