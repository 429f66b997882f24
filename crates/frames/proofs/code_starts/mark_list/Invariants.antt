use Rattle.std.proofs.Common.{drop}
use Rattle.insn.specs.Offsets.{acts}
use Rattle.insn.specs.Views.{views}
use Rattle.frames.specs.Marks.{AreMarks}
use Rattle.frames.proofs.code_starts.mark_list.Given as goal

abbrev pub invariant-loop-i : goal.invariant-loop-i
invariant-loop-i l = AreMarks l.marks (acts (views (drop l.i l.list)))
