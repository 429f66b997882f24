-- The classes so far that stand are kept.
use Rattle.std.proofs.Common.{◌≡◌, length, take, filter}
use Rattle.hierarchy.specs.Summary.{facts_of}
use Rattle.verify.specs.Standing.{stands}
use Rattle.verify.proofs.standing.standing.Given as goal

abbrev pub invariant-loop-i : goal.invariant-loop-i
invariant-loop-i l =
    facts_of l.kept.items ≡ filter (stands (facts_of l.fn.gathered.classes.items)) (take (length l.yielded) (facts_of l.fn.gathered.classes.items))
