-- The class and those of the others so far that stand are there.
use Rattle.std.proofs.Common.{◌≡◌, take}
use Rattle.hierarchy.specs.Summary.{facts_of}
use Rattle.verify.specs.Standing.{stands}
use Rattle.verify.proofs.Others.{first_and}
use Rattle.verify.proofs.known_summaries.standing_behind.Given as goal

abbrev pub invariant-loop-i : goal.invariant-loop-i
invariant-loop-i l =
    let all = facts_of l.class-items in
    facts_of l.summaries.items ≡ first_and (stands all) (take l.i all)
