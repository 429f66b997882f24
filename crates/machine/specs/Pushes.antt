-- The operand stack after an instruction, by its act and the constant that it names (JVMS 2.6.2, 2.11, 6.5): how many
-- operands are gone, and what stands on what was beneath them.
use Rattle.std.specs.Prelude.{◌≡◌, ℕ, ◌+◌, if◌then◌else◌, bytes_eq, List, ◌∷◌, ◌++◌, length, drop, slice_get, Option, Some, None}
use Rattle.names.specs.Descriptors.{FieldDescriptor}
use Rattle.names.specs.ReferenceTypes.{ReferenceType}
use Rattle.names.specs.StandardNames.{init_name}
use Rattle.pool.specs.Entries as entries
use Rattle.pool.specs.Entries.{Entry}
use Rattle.pool.specs.ConstantMeanings.{constant_at, MethodConstant, method_at, CallSite, call_site_at}
use Rattle.classfile.specs.Methods.{Method}
use Rattle.hierarchy.specs.World.{World}
use Rattle.insn.specs.declared.kinds.Kind.{Kind}
use Rattle.insn.specs.declared.kinds.Kind.TheVariants as kinds
use Rattle.insn.specs.declared.stack.StackOperator.{StackOperator}
use Rattle.insn.specs.Operators.{numeric_row}
use Rattle.insn.specs.TableLaws.{top_units, passed_units, moved_by}
use Rattle.insn.specs.Meanings as acts
use Rattle.insn.specs.Meanings.{Act}
use Rattle.insn.specs.Offsets.{at_offset}
use Rattle.machine.specs.Values.{Value, number, null, holds}
use Rattle.machine.specs.ByType.{units_of_all}
use Rattle.machine.specs.Demands.{State}
use Rattle.machine.specs.Steps.{go, goes_on, Happens}

-- what stands on what is beneath so many operands
pub data Leaves : Type 0 where
  nothing : (operands : ℕ) → Leaves
  a_number : (kind : Kind) (operands : ℕ) → Leaves
  a_null : (operands : ℕ) → Leaves
  -- the value that is answered
  the_answer : (operands : ℕ) → Leaves
  -- the value that a local variable holds
  the_local : (local : ℕ) → Leaves
  -- the value on top, as it was
  the_top : Leaves
  -- the items of an instruction for the stack
  the_items : (operator : StackOperator) → Leaves

-- ---- by act

abbrev pub wide_constant_left : Option Entry → Leaves
wide_constant_left (Some (entries.Long high low)) = a_number kinds.Long 0
wide_constant_left (Some (entries.Double high low)) = a_number kinds.Double 0
wide_constant_left (Some (entries.Dynamic bootstrap name)) = the_answer 0
wide_constant_left _ = nothing 0

abbrev pub result_left : Option FieldDescriptor → ℕ → Leaves
result_left (Some type) operands = the_answer operands
result_left None operands = nothing operands

-- arguments, and so many receivers, one or none
abbrev pub call_left : Option MethodConstant → ℕ → Leaves
call_left (Some c) receivers = result_left c.type.result (length c.type.params + receivers)
call_left None receivers = nothing 0

abbrev pub site_left : Option CallSite → Leaves
site_left (Some c) = result_left c.type.result (length c.type.params)
site_left None = nothing 0

-- an instance initialization method has no result (2.9.1)
abbrev pub special_left : Option MethodConstant → Leaves
special_left (Some c) = if bytes_eq c.name init_name then nothing (length c.type.params + 1) else call_left (Some c) 1
special_left None = nothing 0

abbrev pub leaves : Method Act → Act → Leaves
leaves m acts.Nothing = nothing 0
leaves m (acts.Constant kind) = a_number kind 0
leaves m acts.ConstantNull = a_null 0
leaves m (acts.LoadConstant i) = the_answer 0
leaves m (acts.LoadWideConstant i) = wide_constant_left (constant_at m.constant_pool i)
leaves m (acts.Load kind local) = the_local local
leaves m (acts.LoadReference local) = the_local local
leaves m (acts.Store kind local) = nothing 1
leaves m (acts.StoreReference local) = nothing 1
leaves m (acts.Increment local) = nothing 0
leaves m (acts.Numeric operator) = a_number (numeric_row operator).given (length (numeric_row operator).taken)
leaves m (acts.Stack operator) = the_items operator
leaves m (acts.IfInt offset) = nothing 1
leaves m (acts.IfInts offset) = nothing 2
leaves m (acts.IfReferences offset) = nothing 2
leaves m (acts.IfNull offset) = nothing 1
leaves m (acts.Goto offset) = nothing 0
leaves m (acts.Switch default offsets) = nothing 1
leaves m (acts.GetStatic i) = the_answer 0
leaves m (acts.PutStatic i) = nothing 1
leaves m (acts.GetField i) = the_answer 1
leaves m (acts.PutField i) = nothing 2
leaves m (acts.InvokeStatic i) = call_left (method_at m.constant_pool i) 0
leaves m (acts.InvokeVirtual i) = call_left (method_at m.constant_pool i) 1
leaves m (acts.InvokeInterface i count) = call_left (method_at m.constant_pool i) 1
leaves m (acts.InvokeSpecial i) = special_left (method_at m.constant_pool i)
leaves m (acts.InvokeDynamic i) = site_left (call_site_at m.constant_pool i)
leaves m (acts.New i) = the_answer 0
leaves m (acts.LoadElement element) = the_answer 2
leaves m (acts.StoreElement element) = nothing 3
leaves m acts.LoadReferenceElement = the_answer 2
leaves m acts.StoreReferenceElement = nothing 3
leaves m acts.ArrayLength = a_number kinds.Int 1
leaves m (acts.NewArray element) = the_answer 1
leaves m (acts.NewReferenceArray i) = the_answer 1
leaves m (acts.NewMultiArray i dimensions) = the_answer dimensions
leaves m (acts.CheckCast i) = the_top
leaves m (acts.InstanceOf i) = a_number kinds.Int 1
leaves m acts.Monitor = nothing 1
-- returns, athrow, and what is not supported: nothing goes on
leaves m _ = nothing 0

-- ---- the stack

-- items on top of the stack of so many units, items beneath them of so many, and what stands there then
pub record AreMoved (operator : StackOperator) (before behind : List Value) : Type 0 where
  pub top : List Value
  pub passed : List Value
  pub rest : List Value
  pub items : before ≡ top ++ (passed ++ rest)
  pub top_size : units_of_all top ≡ top_units operator
  pub passed_size : units_of_all passed ≡ passed_units operator
  pub moved : behind ≡ moved_by operator top passed ++ rest

abbrev pub IsLeft : Leaves → State → Option Value → List Value → Type 0
IsLeft (nothing operands) s answer stack = stack ≡ drop operands s.stack
IsLeft (a_number kind operands) s answer stack = stack ≡ number kind ∷ drop operands s.stack
IsLeft (a_null operands) s answer stack = stack ≡ null ∷ drop operands s.stack
IsLeft (the_answer operands) s answer stack = (v : Value) × (answer ≡ Some v) × (stack ≡ v ∷ drop operands s.stack)
IsLeft (the_local local) s answer stack = (v : Value) × (slice_get s.locals local ≡ Some (holds v))
    × (stack ≡ v ∷ s.stack)
IsLeft the_top s answer stack = stack ≡ s.stack
IsLeft (the_items operator) s answer stack = AreMoved operator s.stack stack

-- after each step
abbrev pub StackBounds : Type 0
StackBounds =
    (world : World) (m : Method Act) (s : State) (act : Act) → at_offset m.code s.at ≡ Some act
    → (branch : Option ℕ) (answer : Option Value) (fresh : List (ℕ × ReferenceType)) (t : State)
    → Happens world m s (go branch answer fresh) (goes_on t) → IsLeft (leaves m act) s answer t.stack
