use Rattle.std.proofs.Common.{◌≡◌, map}
use Rattle.insn.specs.Instructions.{keys, rising, rising_after}
use Rattle.insn.specs.Views.{pairs_left}
use Rattle.insn.proofs.instruction_reading.rising.Given as goal

abbrev pub invariant-loop-key : goal.invariant-loop-key
invariant-loop-key l = rising_after l.last (map (λ x. x.0) (pairs_left l.key-iterator)) ≡ rising (keys l.fn.pairs)
