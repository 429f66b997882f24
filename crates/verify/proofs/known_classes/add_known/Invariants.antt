-- The files so far are classes, and their summaries were added.
use Rattle.std.proofs.Common.{◌≡◌, ◌++◌, List, map, take}
use Rattle.classfile.specs.Values.{Class}
use Rattle.hierarchy.specs.ClassSummary.{summary_of}
use Rattle.hierarchy.specs.Summary.{facts_of}
use Rattle.verify.specs.Files.{read_of, AreFormed}
use Rattle.verify.proofs.known_classes.add_known.Given as goal

abbrev pub invariant-loop-i : goal.invariant-loop-i
invariant-loop-i l =
    (cs : List Class) × AreFormed (take l.i (map read_of l.known)) cs × (facts_of l.summaries.items ≡ facts_of l.initial.summaries.items ++ map summary_of cs)
