-- Where code is not refused, what is left is read, and the instruction is not among those that are gone.
use Rattle.std.proofs.Common.{◌≡◌, ℕ, List, Ok}
use Rattle.insn.specs.Instructions.{Instruction}
use Rattle.insn.specs.Offsets.{at_offset}
use Rattle.insn.specs.Decoding.{code_result}
use Rattle.insn.proofs.CodeResults.{result_at}
use Rattle.printing.proofs.code.find_instruction.Given as goal

abbrev pub invariant-loop-step : goal.invariant-loop-step
invariant-loop-step l =
    (xs : List (ℕ × Instruction)) → code_result l.code ≡ Ok xs
    → (left : List (ℕ × Instruction)) × (result_at l.step-iterator ≡ Ok left) × (at_offset xs l.at ≡ at_offset left l.at)
