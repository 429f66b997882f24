-- The meaning of an instruction, without its form (JVMS 6.5). For a number, an act has its kind and not its value.
-- Branches and switches have offsets from the instruction's own start.
use Rattle.std.specs.Prelude.{ℕ, ℤ, pos, Option, Some, None, List, [], ◌∷◌, nat_eq, map, if◌then◌else◌}
use Rattle.std.specs.Int.{cast_signed, w32}
use Rattle.byteorder.specs.Endian.{big_number}
use Rattle.names.specs.declared.base.Primitive.{Primitive}
use Rattle.names.specs.declared.base.Primitive.TheVariants as primitives
use Rattle.insn.specs.declared.kinds.Kind.{Kind}
use Rattle.insn.specs.declared.operators.NumericOperator.{NumericOperator}
use Rattle.insn.specs.declared.stack.StackOperator.{StackOperator}
use Rattle.insn.specs.declared.acts.Meaning.{Meaning}
use Rattle.insn.specs.declared.acts.Meaning.TheVariants as means
use Rattle.insn.specs.Code.{modified}
use Rattle.insn.specs.Instructions.{Instruction, Operands, pairs, constant, index, local, increment, branch, wide_branch, invoke_interface, invoke_dynamic, new_array, multi_new_array, table_switch, lookup_switch, wide_local, wide_increment}
use Rattle.insn.specs.Opcodes.{meaning}

pub data Act : Type 0 where
  Nothing : Act
  Constant : (kind : Kind) → Act
  ConstantNull : Act
  LoadConstant LoadWideConstant : (index : ℕ) → Act
  Load : (kind : Kind) (local : ℕ) → Act
  LoadReference : (local : ℕ) → Act
  Store : (kind : Kind) (local : ℕ) → Act
  StoreReference : (local : ℕ) → Act
  Increment : (local : ℕ) → Act
  Numeric : (operator : NumericOperator) → Act
  Stack : (operator : StackOperator) → Act
  IfInt IfInts IfReferences IfNull Goto : (offset : ℤ) → Act
  Switch : (default : ℤ) (offsets : List ℤ) → Act
  Return : (kind : Kind) → Act
  ReturnReference ReturnVoid : Act
  GetStatic PutStatic GetField PutField InvokeVirtual InvokeSpecial InvokeStatic : (index : ℕ) → Act
  InvokeInterface : (index count : ℕ) → Act
  InvokeDynamic : (index : ℕ) → Act
  New : (index : ℕ) → Act
  LoadElement StoreElement : (element : Primitive) → Act
  LoadReferenceElement StoreReferenceElement ArrayLength : Act
  NewArray : (element : Option Primitive) → Act
  NewReferenceArray : (index : ℕ) → Act
  NewMultiArray : (index dimensions : ℕ) → Act
  CheckCast InstanceOf : (index : ℕ) → Act
  Throw Monitor Unsupported : Act

-- ---- the operands of an act; one that an instruction has not counts as 0

abbrev pub local_of : Operands → ℕ
local_of (local n) = n
local_of (increment n by) = n
local_of (wide_local opcode n) = n
local_of (wide_increment opcode n by) = n
local_of _ = 0

abbrev pub index_of : Operands → ℕ
index_of (constant i) = i
index_of (index i) = i
index_of (invoke_interface i count) = i
index_of (invoke_dynamic i) = i
index_of (multi_new_array i dimensions) = i
index_of _ = 0

-- the count of invokeinterface, the dimensions of multianewarray, the element type of newarray
abbrev pub byte_of : Operands → ℕ
byte_of (invoke_interface i count) = count
byte_of (multi_new_array i dimensions) = dimensions
byte_of (new_array element) = element
byte_of _ = 0

-- where a branch goes, and a switch for other keys
abbrev pub offset_of : Operands → ℤ
offset_of (branch offset) = offset
offset_of (wide_branch offset) = offset
offset_of (table_switch padding default low high offsets) = default
offset_of (lookup_switch padding default count pairs) = default
offset_of _ = pos 0

-- numbers of four bytes each
abbrev pub offsets : List ℕ → List ℤ
offsets (a ∷ b ∷ c ∷ d ∷ bytes) = cast_signed w32 (big_number 4 (a ∷ b ∷ c ∷ d ∷ [])) ∷ offsets bytes
offsets _ = []

-- the offsets of pairs
abbrev pub pair_offsets : List ℕ → List ℤ
pair_offsets bytes = map (λ x. x.1) (pairs bytes)

abbrev pub offsets_of : Operands → List ℤ
offsets_of (table_switch padding default low high bytes) = offsets bytes
offsets_of (lookup_switch padding default count pairs) = pair_offsets pairs
offsets_of _ = []

-- the types of arrays' elements by their numbers (JVMS 6.5, table 6.5.newarray-A)
abbrev pub element_of : ℕ → Option Primitive
element_of n =
    if nat_eq n 4 then Some primitives.Boolean
    else if nat_eq n 5 then Some primitives.Char
    else if nat_eq n 6 then Some primitives.Float
    else if nat_eq n 7 then Some primitives.Double
    else if nat_eq n 8 then Some primitives.Byte
    else if nat_eq n 9 then Some primitives.Short
    else if nat_eq n 10 then Some primitives.Int
    else if nat_eq n 11 then Some primitives.Long
    else None

-- ---- the act

abbrev pub act_of : Meaning → Operands → Act
act_of means.Nothing x = Nothing
act_of (means.Constant kind) x = Constant kind
act_of means.ConstantNull x = ConstantNull
act_of means.LoadConstant x = LoadConstant (index_of x)
act_of means.LoadWideConstant x = LoadWideConstant (index_of x)
act_of (means.Load kind) x = Load kind (local_of x)
act_of (means.LoadFrom kind n) x = Load kind n
act_of means.LoadReference x = LoadReference (local_of x)
act_of (means.LoadReferenceFrom n) x = LoadReference n
act_of (means.Store kind) x = Store kind (local_of x)
act_of (means.StoreTo kind n) x = Store kind n
act_of means.StoreReference x = StoreReference (local_of x)
act_of (means.StoreReferenceTo n) x = StoreReference n
act_of means.Increment x = Increment (local_of x)
act_of (means.Numeric operator) x = Numeric operator
act_of (means.Stack operator) x = Stack operator
act_of means.IfInt x = IfInt (offset_of x)
act_of means.IfInts x = IfInts (offset_of x)
act_of means.IfReferences x = IfReferences (offset_of x)
act_of means.IfNull x = IfNull (offset_of x)
act_of means.Goto x = Goto (offset_of x)
act_of means.Switch x = Switch (offset_of x) (offsets_of x)
act_of (means.Return kind) x = Return kind
act_of means.ReturnReference x = ReturnReference
act_of means.ReturnVoid x = ReturnVoid
act_of means.GetStatic x = GetStatic (index_of x)
act_of means.PutStatic x = PutStatic (index_of x)
act_of means.GetField x = GetField (index_of x)
act_of means.PutField x = PutField (index_of x)
act_of means.InvokeVirtual x = InvokeVirtual (index_of x)
act_of means.InvokeSpecial x = InvokeSpecial (index_of x)
act_of means.InvokeStatic x = InvokeStatic (index_of x)
act_of means.InvokeInterface x = InvokeInterface (index_of x) (byte_of x)
act_of means.InvokeDynamic x = InvokeDynamic (index_of x)
act_of means.New x = New (index_of x)
act_of (means.LoadElement element) x = LoadElement element
act_of (means.StoreElement element) x = StoreElement element
act_of means.LoadReferenceElement x = LoadReferenceElement
act_of means.StoreReferenceElement x = StoreReferenceElement
act_of means.ArrayLength x = ArrayLength
act_of means.NewArray x = NewArray (element_of (byte_of x))
act_of means.NewReferenceArray x = NewReferenceArray (index_of x)
act_of means.NewMultiArray x = NewMultiArray (index_of x) (byte_of x)
act_of means.CheckCast x = CheckCast (index_of x)
act_of means.InstanceOf x = InstanceOf (index_of x)
act_of means.Throw x = Throw
act_of means.Monitor x = Monitor
act_of means.Unsupported x = Unsupported

-- the act of an instruction; after `wide` that of the opcode which is modified
abbrev pub act : Instruction → Act
act i = act_of (meaning (modified i.opcode i.operands)) i.operands

-- the class of which `new` makes an object, by its index (JVMS 6.5, new)
abbrev pub made_index : Act → Option ℕ
made_index (New i) = Some i
made_index _ = None
