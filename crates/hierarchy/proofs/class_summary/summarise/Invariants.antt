use Rattle.std.proofs.Common.{◌++◌, List, map, take}
use Rattle.classfile.specs.Views.{member_view}
use Rattle.hierarchy.specs.Class.{MemberFact}
use Rattle.hierarchy.specs.ClassSummary.{member_summaries}
use Rattle.hierarchy.specs.private.Summarising.{AreSummarised}
use Rattle.hierarchy.specs.Texts.{AreTexts, kept_texts}
use Rattle.hierarchy.proofs.class_summary.summarise.Given as goal

abbrev pub invariant-loop-member : goal.invariant-loop-member
invariant-loop-member l = record {
  good : AreTexts l.pool l.texts;
  summaries : (facts : List MemberFact) → AreSummarised (kept_texts l.initial.texts) l.initial.out.items facts
      → AreSummarised (kept_texts l.texts) l.out.items (facts ++ member_summaries l.origin.release l.pool l.origin.kind (map member_view (take l.member-index l.members)));
}
