use Rattle.std.proofs.Common.{◌-◌, false}
use Rattle.classfile.specs.Outline.{constants}
use Rattle.file_reads.proofs.Outlines.{Continues}
use Rattle.file_reads.proofs.outline.constants.Given as goal

abbrev pub invariant-loop-i : goal.invariant-loop-i
invariant-loop-i l = Continues (constants (l.count - l.i) l.second) (constants l.count false) l.rest l.bytes
