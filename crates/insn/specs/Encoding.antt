-- The answer of writing instructions (JVMS 4.7.3, 6.5): the code that is the list of them, or why there is none.
use Rattle.std.specs.Prelude.{◌≡◌, ℕ, ◌≤◌, ◌<◌, List, [], ◌∷◌, ◌++◌, length, Result, Ok, Err}
use Rattle.layout.specs.Format.{AreBytes}
use Rattle.layout.specs.declared.fault.WriteFault.{WriteFault}
use Rattle.layout.specs.declared.fault.WriteFault.TheVariants.{OutOfMemory, DoesNotFit, HasNoSpelling}
use Rattle.layout.specs.declared.limits.TheConstants.{MAX_CODE_BYTES}
use Rattle.insn.specs.Instructions.{Instruction}
use Rattle.insn.specs.Code.{SpellsInstruction, SpellsCode}
use Rattle.insn.specs.InstructionSizes.{code_size}
use Rattle.insn.specs.WrittenInstructions.{instruction_bytes}

-- the instructions without the offsets where they begin
abbrev pub instructions : List (ℕ × Instruction) → List Instruction
instructions [] = []
instructions (x ∷ xs) = x.1 ∷ instructions xs

-- The bytes are these instructions one after the other.
pub record SpellsList (bytes : List ℕ) (is : List Instruction) : Type 0 where
  pub list : List (ℕ × Instruction)
  pub same : instructions list ≡ is
  pub code : SpellsCode 0 bytes list

-- and no more than a method's code may have
pub record IsCode (bytes : List ℕ) (is : List Instruction) : Type 0 where
  pub within : length bytes ≤ MAX_CODE_BYTES
  pub spelled : SpellsList bytes is

-- The instructions have more bytes than a method's code may have.
abbrev pub IsTooLarge : List Instruction → Type 0
IsTooLarge is = MAX_CODE_BYTES < code_size is

-- no bytes are the instructions, however many
abbrev pub IsUnspelled : List Instruction → Type 0
IsUnspelled is = (bytes : List ℕ) → AreBytes bytes → SpellsList bytes is → ⊥

-- The code; otherwise 17 where the instructions are too large, and 18 where they are not and no bytes spell them.
abbrev pub Encodes : {X : Type 0} → List Instruction → (X → List ℕ) → Result X WriteFault → Type 0
Encodes is bytes (Ok x) = IsCode (bytes x) is
Encodes is bytes (Err OutOfMemory) = Unit {0}
Encodes is bytes (Err DoesNotFit) = IsTooLarge is
Encodes is bytes (Err HasNoSpelling) = (IsTooLarge is → ⊥) × IsUnspelled is

-- ---- one instruction

-- The bytes were appended, or memory ran out.
abbrev pub Appends : List ℕ → List ℕ → List ℕ → Result (Unit {0}) WriteFault → Type 0
Appends bytes old new (Ok x) = new ≡ old ++ bytes
Appends bytes old new (Err e) = e ≡ OutOfMemory

-- no bytes are the instruction at this offset
abbrev pub HasNone : ℕ → Instruction → Type 0
HasNone at i = (bytes : List ℕ) → AreBytes bytes → SpellsInstruction at bytes i → ⊥

-- The instruction's bytes were appended at this offset, or it has none.
abbrev pub AppendsInstruction : ℕ → Instruction → List ℕ → List ℕ → Result (Unit {0}) WriteFault → Type 0
AppendsInstruction at i old new (Ok x) = SpellsInstruction at (instruction_bytes i) i
    × (new ≡ old ++ instruction_bytes i)
AppendsInstruction at i old new (Err OutOfMemory) = Unit {0}
AppendsInstruction at i old new (Err DoesNotFit) = ⊥
AppendsInstruction at i old new (Err HasNoSpelling) = HasNone at i
