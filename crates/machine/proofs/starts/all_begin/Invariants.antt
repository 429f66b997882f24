use Rattle.std.proofs.Common.{◌≡◌}
use Rattle.insn.specs.Branching.{targets_of}
use Rattle.machine.specs.Bodies.{code_of}
use Rattle.machine.specs.private.Demanded.{all_begin}
use Rattle.machine.proofs.starts.all_begin.Given as goal

abbrev pub invariant-loop-target : goal.invariant-loop-target
invariant-loop-target l = all_begin (code_of l.list) (targets_of l.fn.targets) ≡ all_begin (code_of l.list) (targets_of l.target-iterator)
