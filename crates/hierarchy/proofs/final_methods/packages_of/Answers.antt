use Rattle.std.proofs.Common.{arith, subst}
use Rattle.std.specs.Borrow.{Bor}
use Rattle.hierarchy.specs.declared.summary.Summary.{Summary}
use Rattle.hierarchy.specs.private.FinalMethods.{HasPackage}
use Rattle.hierarchy.specs.Summary.{fact_of}
use Rattle.hierarchy.proofs.FinalParts.{packages_next}
use Rattle.hierarchy.proofs.final_methods.packages_of.Goals as goal

pub loop-place-preserved : goal.loop-place-preserved
loop-place-preserved c = record {
  good = c.in_ok-number_package.ensures.good;
  all = packages_next c.loop-place.packages c.number_package.new.packages c.args.ancestry.now.classes.items c.loop-place.place c.index.result.now (omega (arith, c.loop-place-test.true, c.len-place-end.ensures)) c.in_ok-number_package.ensures.kept c.loop-place.invariant.all
      (subst (λ (s : Bor Summary). HasPackage c.number_package.new.packages (fact_of s.now)) c.index.ensures c.in_ok-number_package.ensures.here);
}
