use Rattle.std.proofs.Common.{◌≡◌, ℕ, ◌+◌, ◌≤◌, List, length}
use Rattle.insn.specs.Instructions.{Instruction}
use Rattle.insn.proofs.CodeLaws.{SoFar}
use Rattle.insn.proofs.decoding.count_instructions.Given as goal

abbrev pub invariant-loop-step : goal.invariant-loop-step
invariant-loop-step l = (xs : List (ℕ × Instruction)) × (length xs ≡ l.count) × (l.count + length l.step-iterator.rest ≤ length l.fn.code) × SoFar l.fn.code l.step-iterator xs
