use Rattle.std.proofs.Common.{arith, subst}
use Rattle.std.specs.Borrow.{Bor}
use Rattle.hierarchy.specs.declared.summary.Summary.{Summary}
use Rattle.hierarchy.specs.private.NumberedMembers.{HaveNumbers}
use Rattle.hierarchy.specs.Summary.{fact_of}
use Rattle.hierarchy.proofs.Numbered.{classes_next}
use Rattle.hierarchy.proofs.numbered_members.numbers_of.Goals as goal

pub loop-place-preserved : goal.loop-place-preserved
loop-place-preserved c = record {
  good = c.in_ok-number_members.ensures.good;
  numbered = classes_next c.args.which c.loop-place.numbers c.number_members.new.numbers c.args.ancestry.now.classes.items c.loop-place.place c.index.result.now (omega (arith, c.loop-place-test.true, c.len-place-end.ensures)) c.in_ok-number_members.ensures.kept c.loop-place.invariant.numbered
      (subst (λ (s : Bor Summary). HaveNumbers c.args.which c.number_members.new.numbers (fact_of s.now).members) c.index.ensures c.in_ok-number_members.ensures.numbered);
}
