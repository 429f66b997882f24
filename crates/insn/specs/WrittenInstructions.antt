-- The bytes of an instruction (JVMS 6.5, "Format"): its opcode, and its operands, one part after the other.
use Rattle.std.specs.Prelude.{◌≡◌, ℕ, ℤ, pos, ◌*◌, ◌<◌, Bool, true, false, not, ◌&&◌, List, [], ◌++◌, length, nat_eq, int_lt, FitsSigned}
use Rattle.std.specs.Int.{cast_unsigned, w8, w16, w32}
use Rattle.std.specs.Int.RustNames.{unsigned_abs}
use Rattle.byteorder.specs.Endian.{big_bytes}
use Rattle.insn.specs.declared.table.Form.{Form}
use Rattle.insn.specs.declared.table.Form.TheVariants as forms
use Rattle.insn.specs.Opcodes.{number, form}
use Rattle.insn.specs.Instructions.{Instruction, Operands, nothing, byte, short, constant, index, local, increment, branch, wide_branch, invoke_interface, invoke_dynamic, new_array, multi_new_array, table_switch, lookup_switch, wide_local, wide_increment, padding_at, table_length, keys, rising}

-- the form of the opcodes that have such operands
abbrev pub form_of : Operands → Form
form_of nothing = forms.Nothing
form_of (byte value) = forms.Byte
form_of (short value) = forms.Short
form_of (constant i) = forms.Constant
form_of (index i) = forms.Index
form_of (local n) = forms.Local
form_of (increment n by) = forms.Increment
form_of (branch offset) = forms.Branch
form_of (wide_branch offset) = forms.WideBranch
form_of (invoke_interface i count) = forms.InvokeInterface
form_of (invoke_dynamic i) = forms.InvokeDynamic
form_of (new_array element) = forms.NewArray
form_of (multi_new_array i dimensions) = forms.MultiNewArray
form_of (table_switch padding default low high offsets) = forms.TableSwitch
form_of (lookup_switch padding default count pairs) = forms.LookupSwitch
form_of (wide_local opcode n) = forms.Wide
form_of (wide_increment opcode n by) = forms.Wide

-- ---- what must hold of operands besides, in an instruction that begins at an offset

abbrev pub takes_local : Form → Bool
takes_local forms.Local = true
takes_local form = false

abbrev pub takes_increment : Form → Bool
takes_increment forms.Increment = true
takes_increment form = false

-- the table has an offset for each key from low to high
abbrev pub fills : ℤ → ℤ → List ℕ → Bool
fills low high offsets = not (int_lt high low) && nat_eq (length offsets) (4 * table_length low high)

-- the table has as many pairs as are counted, and their keys rise
abbrev pub pairs_up : ℤ → List ℕ → Bool
pairs_up count pairs = not (int_lt count (pos 0))
    && (nat_eq (length pairs) (8 * unsigned_abs count) && rising (keys pairs))

abbrev pub agrees : ℕ → Operands → Bool
agrees at (table_switch padding default low high offsets) =
    nat_eq (length padding) (padding_at at) && fills low high offsets
agrees at (lookup_switch padding default count pairs) = nat_eq (length padding) (padding_at at) && pairs_up count pairs
agrees at (wide_local opcode n) = takes_local (form opcode)
agrees at (wide_increment opcode n by) = takes_increment (form opcode)
agrees at _ = true

-- The operands are of the opcode's form, and agree.
pub record IsFine (at : ℕ) (i : Instruction) : Type 0 where
  pub has_form : form i.opcode ≡ form_of i.operands
  pub agree : agrees at i.operands ≡ true

-- Each number has its field's range.
abbrev pub AreInRange : Operands → Type 0
AreInRange nothing = Unit {0}
AreInRange (byte value) = FitsSigned w8 value
AreInRange (short value) = FitsSigned w16 value
AreInRange (constant i) = i < 256
AreInRange (index i) = i < 65536
AreInRange (local n) = n < 256
AreInRange (increment n by) = (n < 256) × FitsSigned w8 by
AreInRange (branch offset) = FitsSigned w16 offset
AreInRange (wide_branch offset) = FitsSigned w32 offset
AreInRange (invoke_interface i count) = (i < 65536) × (count < 256)
AreInRange (invoke_dynamic i) = i < 65536
AreInRange (new_array element) = element < 256
AreInRange (multi_new_array i dimensions) = (i < 65536) × (dimensions < 256)
AreInRange (table_switch padding default low high offsets) = FitsSigned w32 default × FitsSigned w32 low
    × FitsSigned w32 high
AreInRange (lookup_switch padding default count pairs) = FitsSigned w32 default × FitsSigned w32 count
AreInRange (wide_local opcode n) = n < 65536
AreInRange (wide_increment opcode n by) = (n < 65536) × FitsSigned w16 by

-- ---- the bytes

-- what both switches begin with: the second number is the low bound, or how many pairs there are
unfoldable pub switch_head : List ℕ → ℤ → ℤ → List ℕ
switch_head padding default second =
    padding ++ (big_bytes 4 (cast_unsigned w32 default) ++ big_bytes 4 (cast_unsigned w32 second))

unfoldable pub operands_bytes : Operands → List ℕ
operands_bytes nothing = []
operands_bytes (byte value) = big_bytes 1 (cast_unsigned w8 value)
operands_bytes (short value) = big_bytes 2 (cast_unsigned w16 value)
operands_bytes (constant i) = big_bytes 1 i
operands_bytes (index i) = big_bytes 2 i
operands_bytes (local n) = big_bytes 1 n
operands_bytes (increment n by) = big_bytes 1 n ++ big_bytes 1 (cast_unsigned w8 by)
operands_bytes (branch offset) = big_bytes 2 (cast_unsigned w16 offset)
operands_bytes (wide_branch offset) = big_bytes 4 (cast_unsigned w32 offset)
operands_bytes (invoke_interface i count) = big_bytes 2 i ++ (big_bytes 1 count ++ big_bytes 1 0)
operands_bytes (invoke_dynamic i) = big_bytes 2 i ++ big_bytes 2 0
operands_bytes (new_array element) = big_bytes 1 element
operands_bytes (multi_new_array i dimensions) = big_bytes 2 i ++ big_bytes 1 dimensions
operands_bytes (table_switch padding default low high offsets) =
    switch_head padding default low ++ (big_bytes 4 (cast_unsigned w32 high) ++ offsets)
operands_bytes (lookup_switch padding default count pairs) = switch_head padding default count ++ pairs
operands_bytes (wide_local opcode n) = big_bytes 1 (number opcode) ++ big_bytes 2 n
operands_bytes (wide_increment opcode n by) =
    big_bytes 1 (number opcode) ++ (big_bytes 2 n ++ big_bytes 2 (cast_unsigned w16 by))

unfoldable pub instruction_bytes : Instruction → List ℕ
instruction_bytes i = big_bytes 1 (number i.opcode) ++ operands_bytes i.operands
