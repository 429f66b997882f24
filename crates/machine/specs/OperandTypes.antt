-- The types of what an instruction takes, by its act and the constant that it names (JVMS 2.6, 2.9.1, 2.11, 4.9.2, 6.5):
-- each operand, by its place from the top of the stack, the local variable that is read or stored to, the receiver of a
-- constructor, and what is returned. The laws say that a state which is no fault has all of them. They do not use the
-- machine's own table, so a demand that is left out of that table breaks a law.
use Rattle.std.specs.Prelude.{◌≡◌, ℕ, zero, suc, ◌+◌, ◌≤◌, true, List, [], ◌∷◌, length, slice_get, Option, Some, None, ◌⊎◌, bytes_eq, if◌then◌else◌}
use Rattle.names.specs.declared.base.Primitive.{Primitive}
use Rattle.names.specs.Descriptors.{FieldDescriptor, primitive, class, array}
use Rattle.names.specs.ReferenceTypes.{ReferenceType, class_type, array_type, descriptor_of}
use Rattle.names.specs.StandardNames.{init_name, object_name, throwable_name}
use Rattle.pool.specs.ConstantMeanings.{FieldConstant, field_at, MethodConstant, method_at, CallSite, call_site_at}
use Rattle.classfile.specs.Methods.{Method, is_own_field}
use Rattle.hierarchy.specs.World.{World}
use Rattle.insn.specs.declared.kinds.Kind.{Kind}
use Rattle.insn.specs.declared.kinds.Kind.TheVariants as kinds
use Rattle.insn.specs.declared.stack.StackOperator.{StackOperator}
use Rattle.insn.specs.Operators.{numeric_row}
use Rattle.insn.specs.TableLaws.{TakesArray}
use Rattle.insn.specs.Meanings as acts
use Rattle.insn.specs.Meanings.{Act}
use Rattle.insn.specs.Offsets.{at_offset, IsAmong}
use Rattle.machine.specs.Values.{Value, number, null, reference, Slot, second, holds}
use Rattle.machine.specs.Heap.{ready, made, this, object, Heap, IsBelow}
use Rattle.machine.specs.ByType.{kind_of, IsOfReferences, IsOf, units_of_kind, units_of, units_of_all}
use Rattle.machine.specs.ByAct.{other_than_init}
use Rattle.machine.specs.Pushes.{AreMoved}
use Rattle.machine.specs.Demands.{State, HasOperands, IsWithinStack, LeavesReady}
use Rattle.machine.specs.Steps.{go, goes_on, Happens}

-- ---- what is asked of a value

pub data Wanted : Type 0 where
  a_number : (kind : Kind) → Wanted
  -- a number of the type's kind; or null, or an object of the type whose constructor has returned
  typed : (type : FieldDescriptor) → Wanted
  -- null or an object, whether its constructor has returned or not
  any_reference : Wanted
  any_array : Wanted
  -- an array that an instruction for elements of this type takes
  array_for : (element : Primitive) → Wanted
  -- an object whose field may be set
  object_with : (field : FieldConstant) → Wanted

-- null or an array with such components
abbrev pub IsArrayWith : (FieldDescriptor → Type 0) → Heap → Value → Type 0
IsArrayWith Are heap v =
    (v ≡ null)
    ⊎ ((a : ℕ) × (component : FieldDescriptor) × (v ≡ reference a)
    × (heap a ≡ Some (object (array_type component) ready)) × Are component)

-- components of a primitive type that the instruction takes
abbrev pub AreTaken : Primitive → FieldDescriptor → Type 0
AreTaken element component = (p : Primitive) × (component ≡ primitive p) × TakesArray element p

-- in an instance initialization method the own object, where its class declares the field
abbrev pub IsOwnWith : Method Act → Heap → FieldConstant → Value → Type 0
IsOwnWith m heap f v =
    (m.is_init ≡ true) × (is_own_field m f ≡ true)
    × ((a : ℕ) × (x : ReferenceType) × (v ≡ reference a) × (heap a ≡ Some (object x this)))

abbrev pub IsWanted : World → Method Act → Heap → Wanted → Value → Type 0
IsWanted world m heap (a_number kind) v = v ≡ number kind
IsWanted world m heap (typed type) v = IsOf world heap type v
IsWanted world m heap any_reference v = (v ≡ null) ⊎ ((a : ℕ) × (v ≡ reference a))
IsWanted world m heap any_array v = IsArrayWith (λ component. Unit {0}) heap v
IsWanted world m heap (array_for element) v = IsArrayWith (AreTaken element) heap v
IsWanted world m heap (object_with f) v = IsOf world heap (class f.class) v ⊎ IsOwnWith m heap f v

-- ---- operands, by their places from the top of the stack

abbrev pub placed : ℕ → List Wanted → List (ℕ × Wanted)
placed place [] = []
placed place (w ∷ ws) = (place, w) ∷ placed (suc place) ws

-- the first of them is on top
abbrev pub from_top : List Wanted → List (ℕ × Wanted)
from_top ws = placed 0 ws

abbrev pub numbers : List Kind → List Wanted
numbers [] = []
numbers (kind ∷ kinds) = a_number kind ∷ numbers kinds

abbrev pub ints : ℕ → List Wanted
ints zero = []
ints (suc n) = a_number kinds.Int ∷ ints n

-- the last argument is on top, and each stands beneath those that follow it
abbrev pub arguments : List FieldDescriptor → List (ℕ × Wanted)
arguments [] = []
arguments (type ∷ types) = (length types, typed type) ∷ arguments types

-- the receiver stands beneath all of them
abbrev pub on_receiver : ReferenceType → List FieldDescriptor → List (ℕ × Wanted)
on_receiver type types = (length types, typed (descriptor_of type)) ∷ arguments types

abbrev pub call_of : Option MethodConstant → List (ℕ × Wanted)
call_of (Some c) = arguments c.type.params
call_of None = []

abbrev pub call_on : Option MethodConstant → List (ℕ × Wanted)
call_on (Some c) = on_receiver c.class c.type.params
call_on None = []

-- of the current class, but for a constructor
abbrev pub call_special : List ℕ → Option MethodConstant → List (ℕ × Wanted)
call_special me (Some c) =
    if bytes_eq c.name init_name then arguments c.type.params else on_receiver (class_type me) c.type.params
call_special me None = []

abbrev pub call_site : Option CallSite → List (ℕ × Wanted)
call_site (Some c) = arguments c.type.params
call_site None = []

abbrev pub static_value : Option FieldConstant → List Wanted
static_value (Some f) = typed f.type ∷ []
static_value None = []

abbrev pub field_owner : Option FieldConstant → List Wanted
field_owner (Some f) = typed (class f.class) ∷ []
field_owner None = []

abbrev pub field_value : Option FieldConstant → List Wanted
field_value (Some f) = typed f.type ∷ object_with f ∷ []
field_value None = []

abbrev pub result : Option FieldDescriptor → List Wanted
result (Some type) = typed type ∷ []
result None = []

abbrev pub an_object : Wanted
an_object = typed (class object_name)

abbrev pub objects : Wanted
objects = typed (array (class object_name))

abbrev pub operand_types : Method Act → Act → List (ℕ × Wanted)
operand_types m (acts.Store kind n) = from_top (a_number kind ∷ [])
operand_types m (acts.StoreReference n) = from_top (any_reference ∷ [])
operand_types m (acts.Numeric operator) = from_top (numbers (numeric_row operator).taken)
operand_types m (acts.IfInt offset) = from_top (a_number kinds.Int ∷ [])
operand_types m (acts.IfInts offset) = from_top (a_number kinds.Int ∷ a_number kinds.Int ∷ [])
operand_types m (acts.IfReferences offset) = from_top (any_reference ∷ any_reference ∷ [])
operand_types m (acts.IfNull offset) = from_top (any_reference ∷ [])
operand_types m (acts.Switch default offsets) = from_top (a_number kinds.Int ∷ [])
operand_types m (acts.Return kind) = from_top (result m.type.result)
operand_types m acts.ReturnReference = from_top (result m.type.result)
operand_types m (acts.PutStatic i) = from_top (static_value (field_at m.constant_pool i))
operand_types m (acts.GetField i) = from_top (field_owner (field_at m.constant_pool i))
operand_types m (acts.PutField i) = from_top (field_value (field_at m.constant_pool i))
operand_types m (acts.InvokeVirtual i) = call_on (method_at m.constant_pool i)
operand_types m (acts.InvokeInterface i count) = call_on (method_at m.constant_pool i)
operand_types m (acts.InvokeSpecial i) = call_special m.class (method_at m.constant_pool i)
operand_types m (acts.InvokeStatic i) = call_of (method_at m.constant_pool i)
operand_types m (acts.InvokeDynamic i) = call_site (call_site_at m.constant_pool i)
operand_types m (acts.LoadElement p) = from_top (a_number kinds.Int ∷ array_for p ∷ [])
operand_types m (acts.StoreElement p) = from_top (a_number (kind_of p) ∷ a_number kinds.Int ∷ array_for p ∷ [])
operand_types m acts.LoadReferenceElement = from_top (a_number kinds.Int ∷ objects ∷ [])
operand_types m acts.StoreReferenceElement = from_top (an_object ∷ a_number kinds.Int ∷ objects ∷ [])
operand_types m acts.ArrayLength = from_top (any_array ∷ [])
operand_types m (acts.NewArray element) = from_top (a_number kinds.Int ∷ [])
operand_types m (acts.NewReferenceArray i) = from_top (a_number kinds.Int ∷ [])
operand_types m (acts.NewMultiArray i dimensions) = from_top (ints dimensions)
operand_types m (acts.CheckCast i) = from_top (an_object ∷ [])
operand_types m (acts.InstanceOf i) = from_top (an_object ∷ [])
operand_types m acts.Throw = from_top (typed (class throwable_name) ∷ [])
operand_types m acts.Monitor = from_top (any_reference ∷ [])
operand_types m _ = []

-- ---- local variables

-- the local variable that is read
abbrev pub local_read : Act → Option (ℕ × Wanted)
local_read (acts.Load kind n) = Some (n, a_number kind)
local_read (acts.LoadReference n) = Some (n, any_reference)
local_read (acts.Increment n) = Some (n, a_number kinds.Int)
local_read _ = None

-- how many local variables there are at least: a long or double that is stored takes two
abbrev pub locals_stored_to : Act → ℕ
locals_stored_to (acts.Store kind n) = n + units_of_kind kind
locals_stored_to (acts.StoreReference n) = n + 1
locals_stored_to _ = 0

-- two local variables in a row are a long or double and its second half
abbrev pub IsPair : List Slot → ℕ → Type 0
IsPair slots n = (v : Value) × (slice_get slots n ≡ Some (holds v)) × (units_of v ≡ 2)
    × (slice_get slots (suc n) ≡ Some second)

-- ---- calls and returns

-- a constructor is called, or another method by invokespecial
abbrev pub constructor_of : Option MethodConstant → Option MethodConstant
constructor_of (Some c) = if bytes_eq c.name init_name then Some c else None
constructor_of None = None

abbrev pub constructor_called : Method Act → Act → Option MethodConstant
constructor_called m (acts.InvokeSpecial i) = constructor_of (method_at m.constant_pool i)
constructor_called m _ = None

abbrev pub special_called : Method Act → Act → Option MethodConstant
special_called m (acts.InvokeSpecial i) = other_than_init (method_at m.constant_pool i)
special_called m _ = None

-- An object on which a constructor of the class may be called: one of exactly that class that a `new` of this run made,
-- or the own object, by the current class or its direct superclass. No constructor of it has returned.
abbrev pub IsConstructed : Method Act → Heap → List ℕ → ℕ → Type 0
IsConstructed m heap name a =
    (heap a ≡ Some (object (class_type name) made))
    ⊎ (((x : ReferenceType) × (heap a ≡ Some (object x this))) × ((m.class ≡ name) ⊎ (m.superclass ≡ Some name)))

-- the receiver of a constructor, beneath the arguments
pub record HasConstructed (m : Method Act) (s : State) (c : MethodConstant) : Type 0 where
  pub name : List ℕ
  pub class : c.class ≡ class_type name
  pub address : ℕ
  pub here : slice_get s.stack (length c.type.params) ≡ Some (reference address)
  pub object : IsConstructed m s.heap name address

-- a return is of the kind of the method's result
abbrev pub ReturnsResult : Method Act → Act → Type 0
ReturnsResult m (acts.Return kind) = (p : Primitive) × (m.type.result ≡ Some (primitive p)) × (kind_of p ≡ kind)
ReturnsResult m acts.ReturnReference = (type : FieldDescriptor) × (m.type.result ≡ Some type) × IsOfReferences type
ReturnsResult m acts.ReturnVoid = m.type.result ≡ None
ReturnsResult m _ = Unit {0}

-- ---- the laws

pub record IsTyped (world : World) (m : Method Act) (s : State) (act : Act) : Type 0 where
  pub operands : (place : ℕ) (w : Wanted) → IsAmong (place, w) (operand_types m act)
      → (v : Value) × (slice_get s.stack place ≡ Some v) × IsWanted world m s.heap w v
  -- the items that an instruction for the stack moves
  pub items : (operator : StackOperator) → act ≡ acts.Stack operator
      → (moved : List Value) × AreMoved operator s.stack moved
  pub read : (n : ℕ) (w : Wanted) → local_read act ≡ Some (n, w)
      → (v : Value) × (slice_get s.locals n ≡ Some (holds v)) × IsWanted world m s.heap w v
  pub stored : locals_stored_to act ≤ length s.locals
  pub all_locals : length s.locals ≡ m.max_locals
  pub wide : (n : ℕ) (v : Value) → slice_get s.locals n ≡ Some (holds v) → units_of v ≡ 2 → IsPair s.locals n
  pub seconds : (n : ℕ) → slice_get s.locals n ≡ Some second → (k : ℕ) × (n ≡ suc k) × IsPair s.locals k
  pub constructed : (c : MethodConstant) → constructor_called m act ≡ Some c → HasConstructed m s c
  -- the class that invokespecial names is the current class or above it
  pub special : (c : MethodConstant) → special_called m act ≡ Some c → IsBelow world (class_type m.class) c.class
  pub returned : ReturnsResult m act

-- The part of the demands that speaks of operands and local variables says so alone.
abbrev pub OperandsAreTyped : Type 0
OperandsAreTyped = (world : World) (m : Method Act) (s : State) (act : Act) → HasOperands world m s act
    → IsTyped world m s act

-- The part that speaks of max_stack says that the stack is within it, and after a step too.
abbrev pub StackIsWithin : Type 0
StackIsWithin =
    (world : World) (m : Method Act) (s : State) (act : Act) → at_offset m.code s.at ≡ Some act → IsWithinStack m s act
    → (units_of_all s.stack ≤ m.max_stack)
    × ((branch : Option ℕ) (answer : Option Value) (fresh : List (ℕ × ReferenceType)) (t : State)
    → Happens world m s (go branch answer fresh) (goes_on t)
    → units_of_all t.stack ≤ m.max_stack)

-- The part that speaks of the own object says that no instance initialization method returns before it is initialized.
abbrev pub OwnObjectIsDone : Type 0
OwnObjectIsDone =
    (m : Method Act) (s : State) → m.type.result ≡ None → LeavesReady m s acts.ReturnVoid → m.is_init ≡ true
    → (a : ℕ) (x : ReferenceType) → s.heap a ≡ Some (object x this) → ⊥
