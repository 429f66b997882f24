use Rattle.std.proofs.Common.{◌-◌, false}
use Rattle.classfile.specs.Outline.{constants}
use Rattle.classfile.proofs.Outlines.{Continues}
use Rattle.classfile.proofs.outline.constants.Given as goal

abbrev pub invariant-loop-i : goal.invariant-loop-i
invariant-loop-i g l = Continues (constants (l.count - l.i) l.second) (constants l.count false) l.reading.bytes l.initial.reading.bytes (g.R.Read.remaining l.reader) (g.R.Read.remaining l.initial.reader)
