-- The class and the others so far are there.
use Rattle.std.proofs.Common.{◌≡◌, ◌∷◌, take}
use Rattle.hierarchy.specs.Summary.{fact_of, facts_of}
use Rattle.verify.proofs.known_summaries.behind.Given as goal

abbrev pub invariant-loop-other : goal.invariant-loop-other
invariant-loop-other l = facts_of l.summaries.items ≡ fact_of l.fn.class ∷ take l.other-index (facts_of l.classes)
