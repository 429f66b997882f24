use Rattle.std.proofs.Common.{◌≡◌, map, drop}
use Rattle.std.specs.Prelude.{nat_lt}
use Rattle.layout.specs.declared.limits.TheConstants.{MAX_CODE_BYTES}
use Rattle.insn.specs.InstructionSizes.{code_size}
use Rattle.insn.specs.Views.{view}
use Rattle.insn.proofs.encoding.is_too_large.Given as goal

abbrev pub invariant-loop-insn : goal.invariant-loop-insn
invariant-loop-insn l = nat_lt l.room (code_size (map view (drop l.insn-index l.list))) ≡ nat_lt MAX_CODE_BYTES (code_size (map view l.list))
