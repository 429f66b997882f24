-- The classes of the files so far were added.
use Rattle.std.proofs.Common.{List, take}
use Rattle.hierarchy.specs.Summary.{facts_of}
use Rattle.verify.specs.Files.{Read}
use Rattle.verify.specs.Each.{AddsFiles}
use Rattle.verify.specs.private.EachSteps.{ArePlaced}
use Rattle.verify.specs.private.OpeningSteps.{AreOpened}
use Rattle.verify.proofs.gathering.Gathered.add_opened.Given as goal

abbrev pub invariant-loop-file : goal.invariant-loop-file
invariant-loop-file l =
    ArePlaced (facts_of l.self.classes.items) l.self.places
    × ((reads : List Read) → AreOpened reads (take l.file-index l.files)
    → AddsFiles reads (facts_of l.initial.self.classes.items) (facts_of l.self.classes.items))
