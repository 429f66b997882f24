use Rattle.std.proofs.Common.{◌≡◌, map, take}
use Rattle.verify.specs.Files.{read_of}
use Rattle.answers.specs.Files.{input_read}
use Rattle.answers.proofs.reads.file_reads.Given as goal

abbrev pub invariant-loop-read : goal.invariant-loop-read
invariant-loop-read l = map read_of l.answers.items ≡ map (input_read l.versions) (take l.read-index l.files.reads.now)
