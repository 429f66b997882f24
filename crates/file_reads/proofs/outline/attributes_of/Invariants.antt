use Rattle.std.proofs.Common.{◌-◌}
use Rattle.classfile.specs.Outline.{repeated, attribute}
use Rattle.file_reads.proofs.Outlines.{Continues}
use Rattle.file_reads.proofs.outline.attributes_of.Given as goal

abbrev pub invariant-loop : goal.invariant-loop
invariant-loop l = Continues (repeated (l.count - l.counter) attribute) (repeated l.count attribute) l.rest l.bytes
