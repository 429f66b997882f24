-- The class files so far were opened.
use Rattle.std.proofs.Common.{List, take}
use Rattle.verify.specs.Files.{Read}
use Rattle.verify.specs.private.OpeningSteps.{AreDecodedEach, AreOpened}
use Rattle.verify.proofs.opening.open_each.Given as goal

abbrev pub invariant-loop-class : goal.invariant-loop-class
invariant-loop-class l = (reads : List Read) → AreDecodedEach reads (take l.class-index l.classes) → AreOpened reads l.files.items
