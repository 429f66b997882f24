use Rattle.std.proofs.Common.{take}
use Rattle.hierarchy.specs.private.Ancestry.{facts_at}
use Rattle.hierarchy.specs.private.FinalMethods.{HavePackages}
use Rattle.hierarchy.specs.private.Flags.{AreNumbers}
use Rattle.hierarchy.proofs.final_methods.packages_of.Given as goal

abbrev pub invariant-loop-place : goal.invariant-loop-place
invariant-loop-place l = record {
  good : AreNumbers l.packages;
  all : HavePackages l.packages (facts_at (take l.place l.ancestry.classes.items));
}
