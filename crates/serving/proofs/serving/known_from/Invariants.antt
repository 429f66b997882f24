-- The classes in the files so far are known.
use Rattle.std.proofs.Common.{List, [], map, take}
use Rattle.answers.specs.Files.{input_view}
use Rattle.serving.specs.KnownClasses.{KnownClass, BecomeKnown}
use Rattle.serving.specs.private.Stepping.{Knows}
use Rattle.serving.proofs.serving.known_from.Given as goal

abbrev pub invariant-loop-i : goal.invariant-loop-i
invariant-loop-i l = (ks : List KnownClass) × BecomeKnown l.profile [] (take l.i (map input_view l.reads)) ks × Knows l.profile ks l.known
