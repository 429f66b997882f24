use Rattle.std.proofs.Common.{◌-◌}
use Rattle.layout.specs.Format.{number}
use Rattle.classfile.specs.Outline.{repeated}
use Rattle.classfile.proofs.Outlines.{Continues}
use Rattle.classfile.proofs.outline.numbers.Given as goal

abbrev pub invariant-loop : goal.invariant-loop
invariant-loop g l = Continues (repeated (l.count - l.counter) (number 2)) (repeated l.count (number 2)) l.reading.bytes l.initial.reading.bytes (g.R.Read.remaining l.reader) (g.R.Read.remaining l.initial.reader)
