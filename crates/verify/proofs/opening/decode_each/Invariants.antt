-- The files so far were decoded.
use Rattle.std.proofs.Common.{map, take}
use Rattle.verify.specs.Files.{read_of}
use Rattle.verify.specs.private.OpeningSteps.{AreDecodedEach}
use Rattle.verify.proofs.opening.decode_each.Given as goal

abbrev pub invariant-loop-file : goal.invariant-loop-file
invariant-loop-file l = AreDecodedEach (take l.file-index (map read_of l.files)) l.classes.items
