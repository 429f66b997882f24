-- The line of an instruction: its offset, its name, and its operands in the order of the file (JVMS 6.5).
use Rattle.std.specs.Prelude.{ℕ, ℤ, pos, ◌+ℤ◌, Bool, true, false, List, [], ◌++◌, codes, decimal}
use Rattle.std.specs.Fmt.{signed_decimal}
use Rattle.std.specs.List.{flat_map}
use Rattle.insn.specs.Instructions.{Instruction, Operands, pairs, nothing, byte, short, constant, index, local, increment, branch, wide_branch, invoke_interface, invoke_dynamic, new_array, multi_new_array, table_switch, lookup_switch, wide_local, wide_increment}
use Rattle.insn.specs.Code.{modified}
use Rattle.insn.specs.Meanings.{offsets}
use Rattle.insn.specs.Opcodes.{mnemonic}

-- ---- operands, each after a blank

abbrev pub number_text : ℕ → List ℕ
number_text n = codes " " ++ decimal n

abbrev pub value_text : ℤ → List ℕ
value_text z = codes " " ++ signed_decimal z

abbrev pub index_text : ℕ → List ℕ
index_text i = codes " #" ++ decimal i

-- where a branch of this offset leads from an instruction's start
abbrev pub target : ℕ → ℤ → ℤ
target at offset = pos at +ℤ offset

abbrev pub target_text : ℕ → ℤ → List ℕ
target_text at offset = value_text (target at offset)

-- a key, and where a switch goes for it
abbrev pub pair_text : ℕ → ℤ × ℤ → List ℕ
pair_text at pair = codes " " ++ (signed_decimal pair.0 ++ (codes ":" ++ signed_decimal (target at pair.1)))

-- ---- an instruction; padding and bytes that are 0 are not written

abbrev pub operands_text : ℕ → Operands → List ℕ
operands_text at nothing = []
operands_text at (byte value) = value_text value
operands_text at (short value) = value_text value
operands_text at (constant i) = index_text i
operands_text at (index i) = index_text i
operands_text at (local n) = number_text n
operands_text at (increment n by) = number_text n ++ value_text by
operands_text at (branch offset) = target_text at offset
operands_text at (wide_branch offset) = target_text at offset
operands_text at (invoke_interface i count) = index_text i ++ number_text count
operands_text at (invoke_dynamic i) = index_text i
operands_text at (new_array element) = number_text element
operands_text at (multi_new_array i dimensions) = index_text i ++ number_text dimensions
operands_text at (table_switch padding default low high table) =
    value_text low ++ (value_text high ++ (target_text at default ++ flat_map (target_text at) (offsets table)))
operands_text at (lookup_switch padding default count table) =
    target_text at default ++ flat_map (pair_text at) (pairs table)
operands_text at (wide_local opcode n) = number_text n
operands_text at (wide_increment opcode n by) = number_text n ++ value_text by

-- `wide` is a word of its own
abbrev pub wide_text : Operands → List ℕ
wide_text (wide_local opcode n) = codes "wide "
wide_text (wide_increment opcode n by) = codes "wide "
wide_text _ = []

abbrev pub instruction_text : ℕ × Instruction → List ℕ
instruction_text x =
    decimal x.0 ++ (codes " " ++ (wide_text x.1.operands
    ++ (mnemonic (modified x.1.opcode x.1.operands) ++ operands_text x.0 x.1.operands)))

abbrev pub instruction_line : ℕ × Instruction → List ℕ
instruction_line x = codes "  " ++ (instruction_text x ++ codes "\n")

-- ---- words of the code's own steps: parts of an instruction's line

abbrev pub named_text : ℕ × Instruction → List ℕ
named_text x = wide_text x.1.operands ++ (mnemonic (modified x.1.opcode x.1.operands) ++ operands_text x.0 x.1.operands)

abbrev pub offset_text : ℕ → List ℕ
offset_text at = codes "  " ++ (decimal at ++ codes " ")

-- where the line ends, its end
abbrev pub end_text : Bool → List ℕ
end_text true = codes "\n"
end_text false = []

-- an offset and a name, and the line's end where it ends there
abbrev pub beginning_text : ℕ → List ℕ → Bool → List ℕ
beginning_text at name ends = offset_text at ++ (name ++ end_text ends)
