use Rattle.std.proofs.Common.{◌-◌}
use Rattle.classfile.specs.Outline.{repeated}
use Rattle.classfile.proofs.Outlines.{Continues}
use Rattle.classfile.proofs.outline.items.Given as goal

abbrev pub invariant-loop : goal.invariant-loop
invariant-loop g l = Continues (repeated (l.count - l.counter) g.T.Outlined.outline) (repeated l.count g.T.Outlined.outline) l.reading.bytes l.initial.reading.bytes (g.R.Read.remaining l.reader) (g.R.Read.remaining l.initial.reader)
