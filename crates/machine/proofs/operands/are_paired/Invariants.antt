use Rattle.std.proofs.Common.{◌≡◌, false, drop}
use Rattle.machine.specs.private.Decided.{paired_behind}
use Rattle.machine.specs.Views.{locals_of}
use Rattle.machine.proofs.operands.are_paired.Given as goal

abbrev pub invariant-loop-slot : goal.invariant-loop-slot
invariant-loop-slot l = paired_behind false (locals_of l.slots) ≡ paired_behind l.wide (locals_of (drop l.slot-index l.slots))
