-- The class and those of other names so far are there.
use Rattle.std.proofs.Common.{◌≡◌, ◌∷◌, take}
use Rattle.hierarchy.specs.Summary.{fact_of, facts_of}
use Rattle.verify.specs.Beside.{others}
use Rattle.verify.specs.private.EachSteps.{ArePlaced}
use Rattle.verify.proofs.known_summaries.others_behind.Given as goal

abbrev pub invariant-loop-other : goal.invariant-loop-other
invariant-loop-other l =
    ArePlaced (facts_of l.gathered.classes.items) l.gathered.places
    × (facts_of l.gathered.classes.items ≡ fact_of l.fn.class ∷ others (fact_of l.fn.class).name (take l.other-index (facts_of l.classes)))
