-- The instructions of code, or the fault of its first faulty instruction, as a function of the bytes. The relations
-- `SpellsCode` and `FaultyCode` (`Code.antt`) say the same of each code, as a law states (JVMS 4.7.3).
use Rattle.std.specs.Prelude.{◌≡◌, ℕ, zero, suc, List, [], ◌∷◌, length, Result, Ok, Err}
use Rattle.layout.specs.Place.{Place}
use Rattle.layout.specs.Format.{reads}
use Rattle.insn.specs.declared.fault.CodeFault.{CodeFault}
use Rattle.insn.specs.Instructions.{Instruction, instruction_at}
use Rattle.insn.specs.Faults.{judged}
use Rattle.insn.specs.Code.{SpellsCode, FaultyCode}

abbrev pub CodeResult : Type 0
CodeResult = Result (List (ℕ × Instruction)) CodeFault

-- a result is right: its instructions spell the code, or the code has its fault
abbrev pub IsCodeResult : List ℕ → CodeResult → Type 0
IsCodeResult code (Ok instructions) = SpellsCode 0 code instructions
IsCodeResult code (Err fault) = FaultyCode code fault

-- a result with one more instruction in front
abbrev pub behind : ℕ × Instruction → CodeResult → CodeResult
behind x (Ok xs) = Ok (x ∷ xs)
behind x (Err fault) = Err fault

-- the result where one instruction was read at an offset, and the rest is read by a function
abbrev pub result_behind : (ℕ → List ℕ → CodeResult) → ℕ → Result (Instruction × Place) CodeFault → CodeResult
result_behind f at (Ok x) = behind (at, x.0) (f x.1.at x.1.rest)
result_behind f at (Err fault) = Err fault

-- the result of reading at an offset, so many instructions at most
unfoldable pub result_from : ℕ → ℕ → List ℕ → CodeResult
result_from n at [] = Ok []
result_from zero at (b ∷ bytes) = Ok []
result_from (suc n) at (b ∷ bytes) =
    result_behind (result_from n) at (judged at (reads (instruction_at at) at (b ∷ bytes)))

-- the result of code; each instruction has a byte at least, so there are at most as many as bytes
unfoldable pub code_result : List ℕ → CodeResult
code_result code = result_from (length code) 0 code

-- the instructions of code; none where it has a fault
abbrev pub or_none : CodeResult → List (ℕ × Instruction)
or_none (Ok instructions) = instructions
or_none (Err fault) = []

abbrev pub instructions_in : List ℕ → List (ℕ × Instruction)
instructions_in code = or_none (code_result code)

-- the function and the relations say the same of each code
pub record ResultsAreSpellings : Type 0 where
  pub is : (code : List ℕ) → IsCodeResult code (code_result code)
  pub only : (code : List ℕ) (r : CodeResult) → IsCodeResult code r → code_result code ≡ r
