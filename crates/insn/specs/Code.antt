-- Code (JVMS 4.7.3, 4.9.1, 6.5): instructions one after the other, each at the offset where those before it end.
use Rattle.std.specs.Prelude.{◌≡◌, ℕ, ◌+◌, ◌<◌, List, [], ◌∷◌, ◌++◌, length, Option, Some, None, Result, Ok, Err, ◌⊎◌}
use Rattle.layout.specs.Place.{Place, Took}
use Rattle.layout.specs.declared.fault.ReadFault.{ReadFault}
use Rattle.layout.specs.Format.{Spells, FirstFault}
use Rattle.insn.specs.declared.fault.CodeFault.{CodeFault}
use Rattle.insn.specs.declared.fault.CodeFault.TheVariants.{OutOfMemory, CutInstruction}
use Rattle.insn.specs.declared.opcode.Opcode.{Opcode}
use Rattle.insn.specs.Instructions.{Instruction, Operands, wide_local, wide_increment, instruction_at}

-- these bytes, at this offset, are the instruction
abbrev pub SpellsInstruction : ℕ → List ℕ → Instruction → Type 0
SpellsInstruction at bytes i = Spells (instruction_at at) bytes (Ok i)

-- No instruction is in front of these bytes, which begin at this offset: they end inside it, or bytes in front show the
-- fault.
abbrev pub FaultyInstruction : ℕ → List ℕ → CodeFault → Type 0
FaultyInstruction at bytes e =
    ((e ≡ CutInstruction at) × (d : ReadFault) × FirstFault (instruction_at at) at bytes d)
    ⊎ ((first : List ℕ) × (others : List ℕ) × (bytes ≡ first ++ others) × Spells (instruction_at at) first (Err e))

-- The bytes, from this offset on, are these instructions, each with the offset where it begins.
abbrev pub SpellsCode : ℕ → List ℕ → List (ℕ × Instruction) → Type 0
SpellsCode at bytes [] = bytes ≡ []
SpellsCode at bytes (x ∷ xs) =
    (first : List ℕ) × (others : List ℕ) × (bytes ≡ first ++ others) × (x.0 ≡ at) × SpellsInstruction at first x.1
    × SpellsCode (at + length first) others xs

-- The bytes are no code: after instructions stands one at fault.
pub record FaultyCode (bytes : List ℕ) (e : CodeFault) : Type 0 where
  pub instructions : List (ℕ × Instruction)
  pub front : List ℕ
  pub others : List ℕ
  pub parts : bytes ≡ front ++ others
  pub code : SpellsCode 0 front instructions
  pub more : 0 < length others
  pub fault : FaultyInstruction (length front) others e

-- what a refusal says, unless memory ran out
abbrev pub UnlessMemory : CodeFault → Type 0 → Type 0
UnlessMemory OutOfMemory p = Unit {0}
UnlessMemory e p = p

-- One instruction was read: bytes in front are it, and the cursor is after them; or none is in front, and the cursor
-- is where it was.
abbrev pub ReadsInstruction : {X : Type 0} → (X → Instruction) → Place → Place → Result X CodeFault → Type 0
ReadsInstruction view old new (Ok x) = (first : List ℕ) × SpellsInstruction old.at first (view x) × Took first old new
ReadsInstruction view old new (Err e) = FaultyInstruction old.at old.rest e × (new ≡ old)

-- A step through code: the instruction in front with its offset, and the place is after it; or the fault of the one in
-- front, and nothing is left; or nothing, since nothing was left.
abbrev pub StepsThrough : {X : Type 0} → (X → ℕ × Instruction) → Place → Option (Result X CodeFault) → Place → Type 0
StepsThrough view old None new = (old.rest ≡ []) × (new ≡ old)
StepsThrough view old (Some (Ok x)) new = ((view x).0 ≡ old.at) × (first : List ℕ)
    × SpellsInstruction old.at first (view x).1 × Took first old new
StepsThrough view old (Some (Err e)) new = (0 < length old.rest) × FaultyInstruction old.at old.rest e × (new.rest ≡ [])

-- A step through code that gives something of the instruction in front, as `given` has it; and otherwise as above.
abbrev pub StepsBy : {X Y : Type 0} → (X → Y) → (ℕ × Instruction → Y) → Place → Option (Result X CodeFault) → Place
    → Type 0
StepsBy view given old None new = (old.rest ≡ []) × (new ≡ old)
StepsBy view given old (Some (Ok x)) new = (i : Instruction) × (view x ≡ given (old.at, i)) × (first : List ℕ)
    × SpellsInstruction old.at first i × Took first old new
StepsBy view given old (Some (Err e)) new = (0 < length old.rest) × FaultyInstruction old.at old.rest e
    × (new.rest ≡ [])

-- an instruction is in front of the place
abbrev pub HasInstruction : Place → Type 0
HasInstruction p = (i : Instruction) × (first : List ℕ) × (others : List ℕ) × (p.rest ≡ first ++ others)
    × SpellsInstruction p.at first i

-- The opcode that says what is done: after `wide` the one that is modified (JVMS 6.5, wide).
abbrev pub modified : Opcode → Operands → Opcode
modified o (wide_local opcode local) = opcode
modified o (wide_increment opcode local by) = opcode
modified o _ = o
