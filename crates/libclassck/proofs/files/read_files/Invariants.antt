-- The files so far are read.
use Rattle.std.proofs.Common.{map, take}
use Rattle.answers.specs.Files.{input_view}
use Rattle.libclassck.specs.Files.{AreReads}
use Rattle.libclassck.proofs.files.read_files.Given as goal

abbrev pub invariant-loop-file : goal.invariant-loop-file
invariant-loop-file l = AreReads (map (λ file. file.now) (take l.file-index l.files)) (map input_view l.reads.items)
