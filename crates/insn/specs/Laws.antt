-- Laws that follow from code's definition alone (JVMS 4.7.3): instructions are one code at most, and the two ways lead
-- back.
use Rattle.std.specs.Prelude.{◌≡◌, ℕ, ◌≤◌, List, length, Result, Ok, Err, IfOk, ◌⊎◌}
use Rattle.layout.specs.Format.{AreBytes}
use Rattle.layout.specs.declared.fault.WriteFault.{WriteFault}
use Rattle.layout.specs.declared.fault.WriteFault.TheVariants.{OutOfMemory}
use Rattle.layout.specs.declared.limits.TheConstants.{MAX_CODE_BYTES}
use Rattle.insn.specs.declared.fault.CodeFault.{CodeFault}
use Rattle.insn.specs.Instructions.{Instruction}
use Rattle.insn.specs.Code.{SpellsCode, FaultyCode}
use Rattle.insn.specs.InstructionSizes.{code_size, placed}
use Rattle.insn.specs.Encoding.{instructions, SpellsList, IsCode, Encodes}

-- a list of instructions has one spelling at most
abbrev pub OneSpelling : Type 0
OneSpelling = (is : List Instruction) (a b : List ℕ) → AreBytes a → AreBytes b → SpellsList a is → SpellsList b is
    → a ≡ b

-- each instruction begins where those before it end
abbrev pub StartsAreSums : Type 0
StartsAreSums = (bytes : List ℕ) (xs : List (ℕ × Instruction)) → AreBytes bytes → SpellsCode 0 bytes xs
    → xs ≡ placed 0 (instructions xs)

-- code has as many bytes as its instructions
abbrev pub SizesAdd : Type 0
SizesAdd = (bytes : List ℕ) (is : List Instruction) → AreBytes bytes → SpellsList bytes is → length bytes ≡ code_size is

-- what was written is read as it was: the same instructions, and no fault
abbrev pub WrittenIsRead : Type 0
WrittenIsRead = (bytes : List ℕ) (is : List Instruction) → IsCode bytes is
    → ((xs : List (ℕ × Instruction)) → SpellsCode 0 bytes xs → instructions xs ≡ is)
    × ((e : CodeFault) → FaultyCode bytes e → ⊥)

-- what was read is written as it was, unless memory runs out
abbrev pub ReadIsWritten : Type 0
ReadIsWritten = (bytes : List ℕ) (xs : List (ℕ × Instruction)) (answer : Result (List ℕ) WriteFault)
    → AreBytes bytes → length bytes ≤ MAX_CODE_BYTES → SpellsCode 0 bytes xs
    → IfOk answer AreBytes → Encodes (instructions xs) (λ b. b) answer → (answer ≡ Ok bytes)
    ⊎ (answer ≡ Err OutOfMemory)
