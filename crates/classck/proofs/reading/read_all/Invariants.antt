use Rattle.std.proofs.Common.{◌≡◌, length}
use Rattle.classck.proofs.reading.read_all.Given as goal

abbrev pub invariant-loop-i : goal.invariant-loop-i
invariant-loop-i l = length l.reads.items ≡ l.i
