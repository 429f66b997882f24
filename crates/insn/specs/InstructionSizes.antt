-- How many bytes instructions have, by their operands (JVMS 6.5). Instructions that are made by hand have a size too,
-- also where no bytes spell them.
use Rattle.std.specs.Prelude.{ℕ, ◌+◌, List, [], ◌∷◌, length}
use Rattle.insn.specs.Instructions.{Instruction, Operands, nothing, byte, short, constant, index, local, increment, branch, wide_branch, invoke_interface, invoke_dynamic, new_array, multi_new_array, table_switch, lookup_switch, wide_local, wide_increment}

abbrev pub operands_size : Operands → ℕ
operands_size nothing = 0
operands_size (byte value) = 1
operands_size (short value) = 2
operands_size (constant i) = 1
operands_size (index i) = 2
operands_size (local n) = 1
operands_size (increment n by) = 2
operands_size (branch offset) = 2
operands_size (wide_branch offset) = 4
operands_size (invoke_interface i count) = 4
operands_size (invoke_dynamic i) = 4
operands_size (new_array element) = 1
operands_size (multi_new_array i dimensions) = 3
operands_size (table_switch padding default low high offsets) = 12 + (length padding + length offsets)
operands_size (lookup_switch padding default count pairs) = 8 + (length padding + length pairs)
operands_size (wide_local opcode n) = 3
operands_size (wide_increment opcode n by) = 5

-- an instruction has one byte more than its operands, the opcode
abbrev pub size : Instruction → ℕ
size i = 1 + operands_size i.operands

-- the bytes of all instructions
abbrev pub code_size : List Instruction → ℕ
code_size [] = 0
code_size (i ∷ is) = size i + code_size is

-- the instructions with their offsets: each begins where those before it end
abbrev pub placed : ℕ → List Instruction → List (ℕ × Instruction)
placed at [] = []
placed at (i ∷ is) = (at, i) ∷ placed (at + size i) is
