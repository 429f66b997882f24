-- The numbers of the faults of code (31 to 35, and 1), and the answer of a call that reads instructions. Where the
-- bytes end before an instruction does, it is cut (32).
use Rattle.std.specs.Prelude.{ℕ, Result, Ok, Err}
use Rattle.layout.specs.Place.{Place}
use Rattle.layout.specs.declared.fault.ReadFault.{ReadFault}
use Rattle.insn.specs.declared.fault.CodeFault.{CodeFault}
use Rattle.insn.specs.declared.fault.CodeFault.TheVariants.{OutOfMemory, BadOpcode, CutInstruction, BadSwitch, BadWide, NonZeroByte}

-- the number by which each fault is reported
abbrev pub code_fault_number : CodeFault → ℕ
code_fault_number OutOfMemory = 1
code_fault_number (BadOpcode at) = 31
code_fault_number (CutInstruction at) = 32
code_fault_number (BadSwitch at) = 33
code_fault_number (BadWide at) = 34
code_fault_number (NonZeroByte at) = 35

-- a value with the place after it; a fault has none
abbrev pub beside : {V : Type 0} → Place → Result V CodeFault → Result (V × Place) CodeFault
beside p (Ok v) = Ok (v, p)
beside p (Err e) = Err e

-- the answer of reading by a format that may find a fault: the value and the place after it, or the fault; bytes that
-- end too early cut the instruction
abbrev pub judged : {V : Type 0} → ℕ → Result (Result V CodeFault × Place) ReadFault → Result (V × Place) CodeFault
judged at (Ok x) = beside x.1 x.0
judged at (Err e) = Err (CutInstruction at)
