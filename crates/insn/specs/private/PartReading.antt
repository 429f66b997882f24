-- Steps inside an instruction, each of which reads a part of it. Where the bytes end first, it is cut (32).
use Rattle.std.specs.Prelude.{◌≡◌, ℕ, Result, Ok, Err}
use Rattle.layout.specs.Place.{Place}
use Rattle.layout.specs.Format.{Format, reads}
use Rattle.layout.specs.declared.fault.ReadFault.{ReadFault}
use Rattle.insn.specs.declared.fault.CodeFault.{CodeFault}
use Rattle.insn.specs.declared.fault.CodeFault.TheVariants.{CutInstruction}
use Rattle.insn.specs.Faults.{judged}

-- the answer of reading a part of the instruction at an offset
abbrev pub or_cut : {X : Type 0} → ℕ → Result X ReadFault → Result X CodeFault
or_cut at (Ok x) = Ok x
or_cut at (Err e) = Err (CutInstruction at)

-- A call read by the format a part of the instruction that begins at an offset, and moved the cursor past the part.
-- Where it refused, nothing is said of the cursor.
abbrev pub Decodes : {X V : Type 0} → ℕ → Format (Result V CodeFault) → (X → V) → Place → Place → Result X CodeFault
    → Type 0
Decodes at f view old new (Ok x) = judged at (reads f old.at old.rest) ≡ Ok (view x, new)
Decodes at f view old new (Err e) = judged at (reads f old.at old.rest) ≡ Err e
