use Rattle.std.proofs.Common.{take}
use Rattle.hierarchy.specs.private.Above.{classes_above}
use Rattle.hierarchy.specs.private.Flags.{AreFlags}
use Rattle.hierarchy.proofs.flags.flags_of.Given as goal

abbrev pub invariant-loop-place : goal.invariant-loop-place
invariant-loop-place g l = AreFlags l.numbers l.class (take l.place (classes_above (g.C.Classes.content l.classes) l.class)) l.flags
