-- Where code is not refused, what is left is read, and what is gone was written.
use Rattle.std.proofs.Common.{◌≡◌, ℕ, List, Ok}
use Rattle.std.specs.List.{flat_map}
use Rattle.insn.specs.Instructions.{Instruction}
use Rattle.insn.specs.Decoding.{code_result}
use Rattle.insn.proofs.CodeResults.{result_at}
use Rattle.printing.specs.InstructionLines.{instruction_line}
use Rattle.printing.proofs.Writings.{SoFar}
use Rattle.printing.proofs.code.put_instructions.Given as goal

abbrev pub invariant-loop-step : goal.invariant-loop-step
invariant-loop-step g l =
    (xs : List (ℕ × Instruction)) → code_result l.code ≡ Ok xs
    → (left : List (ℕ × Instruction)) × (result_at l.step-iterator ≡ Ok left)
    × SoFar (g.W.Write.contents l.initial.out) (g.W.Write.contents l.out) (flat_map instruction_line xs) (flat_map instruction_line left)
