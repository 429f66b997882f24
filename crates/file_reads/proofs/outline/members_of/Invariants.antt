use Rattle.std.proofs.Common.{◌-◌}
use Rattle.classfile.specs.Outline.{repeated, member}
use Rattle.file_reads.proofs.Outlines.{Continues}
use Rattle.file_reads.proofs.outline.members_of.Given as goal

abbrev pub invariant-loop : goal.invariant-loop
invariant-loop l = Continues (repeated (l.count - l.counter) member) (repeated l.count member) l.rest l.bytes
