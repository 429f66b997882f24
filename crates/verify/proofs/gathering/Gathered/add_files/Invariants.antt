-- The classes of the files so far were added.
use Rattle.std.proofs.Common.{map, take}
use Rattle.hierarchy.specs.Summary.{facts_of}
use Rattle.verify.specs.Files.{read_of}
use Rattle.verify.specs.Each.{AddsFiles}
use Rattle.verify.specs.private.EachSteps.{ArePlaced}
use Rattle.verify.proofs.gathering.Gathered.add_files.Given as goal

abbrev pub invariant-loop-file : goal.invariant-loop-file
invariant-loop-file l =
    ArePlaced (facts_of l.self.classes.items) l.self.places
    × AddsFiles (take l.file-index (map read_of l.files)) (facts_of l.initial.self.classes.items) (facts_of l.self.classes.items)
