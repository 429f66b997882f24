-- So many of the locals so far are in use.
use Rattle.std.proofs.Common.{◌≡◌, ◌≤◌, map, take}
use Rattle.frames.specs.VerificationType.{type_of}
use Rattle.printing.specs.Frames.{in_use}
use Rattle.printing.proofs.frame.count_in_use.Given as goal

abbrev pub invariant-loop-i : goal.invariant-loop-i
invariant-loop-i l = (l.count ≤ l.i) × (in_use (map type_of (take l.i l.locals)) ≡ map type_of (take l.count l.locals))
