-- The lines of the files that are gone were written.
use Rattle.std.proofs.Common.{◌+◌, drop}
use Rattle.printing.proofs.Writings.{SoFar}
use Rattle.answers.specs.Judgements.{lines_from}
use Rattle.answers.proofs.judgements.JudgementsTextPrint.put.Given as goal

abbrev pub invariant-loop-i : goal.invariant-loop-i
invariant-loop-i g l =
    SoFar (g.W.Write.contents l.initial.out) (g.W.Write.contents l.out)
    (lines_from l.self.form 1 l.self.judgements.now) (lines_from l.self.form (l.i + 1) (drop l.i l.self.judgements.now))
