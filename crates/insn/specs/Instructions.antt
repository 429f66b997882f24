-- Instructions, and which bytes spell them (JVMS 6.5). An instruction is an opcode and what stands after it. The bytes
-- of one are a format of parts in their order; where a part shows that no instruction stands there, the format ends
-- with the fault in place of an instruction. All depends on the offset of the instruction, since a switch is padded by
-- it.
use Rattle.std.specs.Prelude.{ℕ, ℤ, pos, ◌+◌, ◌-◌, ◌*◌, ◌%◌, ◌-ℤ◌, Bool, true, ◌&&◌, List, [], ◌∷◌, map, Option, Some, None, Result, Ok, Err, nat_eq, int_lt, if◌then◌else◌}
use Rattle.std.specs.Int.{cast_signed, w8, w16, w32}
use Rattle.std.specs.Int.RustNames.{unsigned_abs}
use Rattle.byteorder.specs.Endian.{big_number}
use Rattle.layout.specs.Format.{Format, done, part, andthen, number}
use Rattle.insn.specs.declared.fault.CodeFault.{CodeFault}
use Rattle.insn.specs.declared.fault.CodeFault.TheVariants.{BadOpcode, BadSwitch, BadWide, NonZeroByte}
use Rattle.insn.specs.declared.table.Form.{Form}
use Rattle.insn.specs.declared.table.Form.TheVariants as forms
use Rattle.insn.specs.declared.opcode.Opcode.{Opcode}
use Rattle.insn.specs.Opcodes.{opcode_of, form}

-- what stands after an opcode; the tables of switches are their bytes
pub data Operands : Type 0 where
  nothing : Operands
  byte : (value : ℤ) → Operands
  short : (value : ℤ) → Operands
  constant : (index : ℕ) → Operands
  index : (index : ℕ) → Operands
  local : (local : ℕ) → Operands
  increment : (local : ℕ) (by : ℤ) → Operands
  branch : (offset : ℤ) → Operands
  wide_branch : (offset : ℤ) → Operands
  invoke_interface : (index count : ℕ) → Operands
  invoke_dynamic : (index : ℕ) → Operands
  new_array : (element : ℕ) → Operands
  multi_new_array : (index dimensions : ℕ) → Operands
  table_switch : (padding : List ℕ) (default low high : ℤ) (offsets : List ℕ) → Operands
  lookup_switch : (padding : List ℕ) (default count : ℤ) (pairs : List ℕ) → Operands
  -- after `wide`: an opcode, and its operands in twice the bytes
  wide_local : (opcode : Opcode) (local : ℕ) → Operands
  wide_increment : (opcode : Opcode) (local : ℕ) (by : ℤ) → Operands

pub record Instruction : Type 0 where
  pub opcode : Opcode
  pub operands : Operands

-- an instruction's operands, or why no instruction stands there
abbrev pub Outcome : Type 0
Outcome = Result Operands CodeFault

abbrev spelled : Operands → Format Outcome
spelled x = done (Ok x)

abbrev faulty : CodeFault → Format Outcome
faulty e = done (Err e)

-- ---- switches (JVMS 6.5, tableswitch and lookupswitch)

-- how many bytes of padding follow the opcode at an offset: the next byte's offset is a multiple of four
abbrev pub padding_at : ℕ → ℕ
padding_at at = 3 - at % 4

-- how many offsets there are from low to high
abbrev pub table_length : ℤ → ℤ → ℕ
table_length low high = unsigned_abs (high -ℤ low) + 1

-- pairs of a key and an offset, of four bytes each
abbrev pub pairs : List ℕ → List (ℤ × ℤ)
pairs (a ∷ b ∷ c ∷ d ∷ e ∷ f ∷ g ∷ h ∷ others) =
    (cast_signed w32 (big_number 4 (a ∷ b ∷ c ∷ d ∷ [])), cast_signed w32 (big_number 4 (e ∷ f ∷ g ∷ h ∷ [])))
    ∷ pairs others
pairs _ = []

abbrev pub keys : List ℕ → List ℤ
keys bytes = map (λ x. x.0) (pairs bytes)

-- the key is over the last one
abbrev pub follows : Option ℤ → ℤ → Bool
follows None key = true
follows (Some last) key = int_lt last key

-- each key is over the one before it
abbrev pub rising_after : Option ℤ → List ℤ → Bool
rising_after last [] = true
rising_after last (key ∷ others) = follows last key && rising_after (Some key) others

abbrev pub rising : List ℤ → Bool
rising ks = rising_after None ks

abbrev pub table_behind : ℕ → List ℕ → ℤ → ℤ → ℤ → Format Outcome
table_behind at padding default low high =
    if int_lt high low then faulty (BadSwitch at)
    else part (4 * table_length low high) (λ offsets. spelled (table_switch padding default low high offsets))

abbrev pub pairs_behind : ℕ → List ℕ → ℤ → ℤ → Format Outcome
pairs_behind at padding default count =
    if int_lt count (pos 0) then faulty (BadSwitch at)
    else part (8 * unsigned_abs count)
    (λ pairs. if rising (keys pairs) then spelled (lookup_switch padding default count pairs)
    else faulty (BadSwitch at))

unfoldable pub table_switch_at : ℕ → Format Outcome
table_switch_at at = part (padding_at at) (λ padding.
    andthen (number 4) (λ default. andthen (number 4) (λ low. andthen (number 4) (λ high.
    table_behind at padding (cast_signed w32 default) (cast_signed w32 low) (cast_signed w32 high)))))

unfoldable pub lookup_switch_at : ℕ → Format Outcome
lookup_switch_at at = part (padding_at at) (λ padding.
    andthen (number 4) (λ default. andthen (number 4) (λ count.
    pairs_behind at padding (cast_signed w32 default) (cast_signed w32 count))))

-- ---- wide (JVMS 6.5, wide)

abbrev pub widened : ℕ → Opcode → Form → Format Outcome
widened at o forms.Local = andthen (number 2) (λ local. spelled (wide_local o local))
widened at o forms.Increment =
    andthen (number 2) (λ local. andthen (number 2) (λ by. spelled (wide_increment o local (cast_signed w16 by))))
widened at o form = faulty (BadWide at)

abbrev pub widened_opcode : ℕ → Option Opcode → Format Outcome
widened_opcode at None = faulty (BadWide at)
widened_opcode at (Some o) = widened at o (form o)

unfoldable pub wide_at : ℕ → Format Outcome
wide_at at = andthen (number 1) (λ n. widened_opcode at (opcode_of n))

-- ---- bytes that are 0 (JVMS 6.5, invokeinterface and invokedynamic)

unfoldable pub invoke_interface_at : ℕ → Format Outcome
invoke_interface_at at = andthen (number 2) (λ index. andthen (number 1) (λ count. andthen (number 1) (λ zero.
    if nat_eq zero 0 then spelled (invoke_interface index count) else faulty (NonZeroByte at))))

unfoldable pub invoke_dynamic_at : ℕ → Format Outcome
invoke_dynamic_at at = andthen (number 2) (λ index. andthen (number 2) (λ zero.
    if nat_eq zero 0 then spelled (invoke_dynamic index) else faulty (NonZeroByte at)))

-- ---- what stands after an opcode of a form

unfoldable pub operands_at : ℕ → Form → Format Outcome
operands_at at forms.Nothing = spelled nothing
operands_at at forms.Byte = andthen (number 1) (λ n. spelled (byte (cast_signed w8 n)))
operands_at at forms.Short = andthen (number 2) (λ n. spelled (short (cast_signed w16 n)))
operands_at at forms.Constant = andthen (number 1) (λ n. spelled (constant n))
operands_at at forms.Index = andthen (number 2) (λ n. spelled (index n))
operands_at at forms.Local = andthen (number 1) (λ n. spelled (local n))
operands_at at forms.Increment =
    andthen (number 1) (λ n. andthen (number 1) (λ by. spelled (increment n (cast_signed w8 by))))
operands_at at forms.Branch = andthen (number 2) (λ n. spelled (branch (cast_signed w16 n)))
operands_at at forms.WideBranch = andthen (number 4) (λ n. spelled (wide_branch (cast_signed w32 n)))
operands_at at forms.InvokeInterface = invoke_interface_at at
operands_at at forms.InvokeDynamic = invoke_dynamic_at at
operands_at at forms.NewArray = andthen (number 1) (λ n. spelled (new_array n))
operands_at at forms.MultiNewArray =
    andthen (number 2) (λ n. andthen (number 1) (λ dimensions. spelled (multi_new_array n dimensions)))
operands_at at forms.TableSwitch = table_switch_at at
operands_at at forms.LookupSwitch = lookup_switch_at at
operands_at at forms.Wide = wide_at at

-- ---- an instruction

abbrev pub of_opcode : Opcode → Outcome → Result Instruction CodeFault
of_opcode o (Ok x) = Ok (record { opcode = o; operands = x })
of_opcode o (Err e) = Err e

abbrev pub behind_opcode : ℕ → Option Opcode → Format (Result Instruction CodeFault)
behind_opcode at None = done (Err (BadOpcode at))
behind_opcode at (Some o) = andthen (operands_at at (form o)) (λ x. done (of_opcode o x))

-- the instruction at an offset, or why none stands there
unfoldable pub instruction_at : ℕ → Format (Result Instruction CodeFault)
instruction_at at = andthen (number 1) (λ n. behind_opcode at (opcode_of n))
