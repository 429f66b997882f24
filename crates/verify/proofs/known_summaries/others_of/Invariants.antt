-- The classes of other names so far are there.
use Rattle.std.proofs.Common.{◌≡◌, take, filter, not}
use Rattle.std.specs.Str.{bytes_eq}
use Rattle.hierarchy.specs.Summary.{facts_of}
use Rattle.verify.specs.private.EachSteps.{ArePlaced}
use Rattle.verify.proofs.known_summaries.others_of.Given as goal

abbrev pub invariant-loop-class : goal.invariant-loop-class
invariant-loop-class l =
    ArePlaced (facts_of l.others.classes.items) l.others.places
    × (facts_of l.others.classes.items ≡ filter (λ c. not (bytes_eq l.name c.name)) (take l.class-index (facts_of l.classes)))
