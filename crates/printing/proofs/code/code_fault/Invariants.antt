-- The fault is that of what is left.
use Rattle.std.proofs.Common.{◌≡◌, length}
use Rattle.insn.specs.Decoding.{code_result}
use Rattle.insn.proofs.CodeResults.{result_at}
use Rattle.printing.specs.CodeLines.{fault_of}
use Rattle.printing.proofs.code.code_fault.Given as goal

abbrev pub invariant-loop-step : goal.invariant-loop-step
invariant-loop-step l = fault_of (code_result l.code) ≡ fault_of (result_at l.instructions)

abbrev pub decreases-loop-step : goal.decreases-loop-step
decreases-loop-step l = length l.instructions.rest
