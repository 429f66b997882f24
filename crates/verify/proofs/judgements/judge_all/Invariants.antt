-- The numbers are those of this hierarchy, and the files so far were judged.
use Rattle.std.proofs.Common.{◌≡◌, List, take}
use Rattle.verify.specs.Files.{Read}
use Rattle.verify.specs.Each.{AreJudged}
use Rattle.verify.specs.private.OpeningSteps.{AreOpened}
use Rattle.verify.proofs.judgements.judge_all.Given as goal

abbrev pub invariant-loop-file : goal.invariant-loop-file
invariant-loop-file g l =
    (l.numbers.classes ≡ g.C.Classes.content l.classes)
    × ((reads : List Read) → AreOpened reads (take l.file-index l.files)
    → AreJudged l.profile (g.C.Classes.content l.classes) reads l.judgements.items)
