use Rattle.std.proofs.Common.{pos}
use Rattle.std.specs.Prelude.{◌↔◌}
use Rattle.insn.specs.Branching.{targets_of}
use Rattle.insn.specs.Offsets.{IsAmong}
use Rattle.machine.proofs.completion.is_target.Given as goal

abbrev pub invariant-loop-target : goal.invariant-loop-target
invariant-loop-target l = IsAmong (pos l.to) (targets_of l.fn.targets) ↔ IsAmong (pos l.to) (targets_of l.target-iterator)
