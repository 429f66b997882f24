use Rattle.std.proofs.Common.{◌≡◌, drop, map}
use Rattle.hierarchy.specs.private.SameSummaries.{AreCompared, same_members}
use Rattle.hierarchy.specs.Summary.{member_of}
use Rattle.hierarchy.proofs.same_summaries.same_members.Given as goal

abbrev pub invariant-loop-i : goal.invariant-loop-i
invariant-loop-i l = record {
  compared : AreCompared l.one.texts.items l.other.texts.items l.comparison;
  rest : same_members (map (member_of l.one.texts.items) l.one.members.items) (map (member_of l.other.texts.items) l.other.members.items)
      ≡ same_members (map (member_of l.one.texts.items) (drop l.i l.one.members.items)) (map (member_of l.other.texts.items) (drop l.i l.other.members.items));
}
