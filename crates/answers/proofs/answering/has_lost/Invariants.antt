-- None so far is lost, so it rests with the others.
use Rattle.std.proofs.Common.{◌≡◌, map, drop}
use Rattle.answers.specs.Answers.{has_lost}
use Rattle.answers.specs.Files.{input_view}
use Rattle.answers.proofs.answering.has_lost.Given as goal

abbrev pub invariant-loop-read : goal.invariant-loop-read
invariant-loop-read l = has_lost (map input_view l.reads) ≡ has_lost (map input_view (drop l.read-index l.reads))
