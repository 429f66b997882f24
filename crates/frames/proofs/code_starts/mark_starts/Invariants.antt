use Rattle.std.proofs.Common.{length}
use Rattle.frames.proofs.Marking.{Marking}
use Rattle.frames.proofs.code_starts.mark_starts.Given as goal

abbrev pub invariant-loop-marks : goal.invariant-loop-marks
invariant-loop-marks l = Marking l.code l.instructions l.marks

abbrev pub decreases-loop-marks : goal.decreases-loop-marks
decreases-loop-marks l = length l.instructions.rest
