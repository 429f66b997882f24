-- The demands on a state by the instruction at its offset (JVMS 2.6, 4.9.2, 6.5). A state at which a demand is not met
-- is a fault.
use Rattle.std.specs.Prelude.{◌≡◌, ℕ, ℤ, pos, ◌+◌, ◌≤◌, true, List, [], ◌∷◌, length, slice_get, Some, ◌⊎◌}
use Rattle.names.specs.ReferenceTypes.{ReferenceType, class_type}
use Rattle.hierarchy.specs.World.{World}
use Rattle.classfile.specs.Methods.{Method, ExceptionEntry, covers}
use Rattle.insn.specs.declared.kinds.Kind.TheVariants as kinds
use Rattle.insn.specs.declared.stack.StackPlace.{StackPlace}
use Rattle.insn.specs.Operators.{StackForm}
use Rattle.insn.specs.OperandStacks.{beneath, rearranged}
use Rattle.insn.specs.Offsets.{at_offset, IsStart, next_offset, IsAmong}
use Rattle.insn.specs.Meanings.{Act}
use Rattle.machine.specs.Values.{Value, number, reference, Slot, holds, is_wide_value, units, depth_of, ArePaired, place_of}
use Rattle.machine.specs.Heap.{made, this, object, Heap, IsBelow, FitsReference, IsReference, FitsArray, FitsArrayFor, IsReady, IsThis, HasNoThis}
use Rattle.machine.specs.Effects as tables
use Rattle.machine.specs.Effects.{Demand, of_kind, of_type, some_reference, some_array, some_array_for, own_or_of, Effect, operates, reads, writes, increments, moves, creates, makes_array, initializes, calls_special, ends, stuck, demands_of, reply_units, Effects, falls, targets}

-- Before an instruction: its offset, the operand stack with its top first, the local variables, and the objects.
pub record State : Type 0 where
  pub at : ℕ
  pub stack : List Value
  pub locals : List Slot
  pub heap : Heap

-- ---- operands

abbrev pub Meets : World → Heap → Demand → Value → Type 0
Meets world heap (of_kind kind) v = v ≡ number kind
Meets world heap (of_type type) v = FitsReference world heap type v
Meets world heap some_reference v = IsReference v
Meets world heap some_array v = FitsArray heap v
Meets world heap (some_array_for p) v = FitsArrayFor heap p v
Meets world heap (own_or_of class) v = FitsReference world heap (class_type class) v ⊎ IsThis heap v

-- the stack has enough operands, and each meets its demand
abbrev pub AllMeet : World → Heap → List Demand → List Value → Type 0
AllMeet world heap [] vs = Unit {0}
AllMeet world heap (n ∷ ns) [] = ⊥
AllMeet world heap (n ∷ ns) (v ∷ vs) = Meets world heap n v × AllMeet world heap ns vs

-- the items on top fit the places
abbrev pub AreForm : List StackPlace → List Value → Type 0
AreForm [] vs = Unit {0}
AreForm (p ∷ ps) [] = ⊥
AreForm (p ∷ ps) (v ∷ vs) = (p ≡ place_of v) × AreForm ps vs

-- the receiver of a constructor: an object that this run's `new` made, of exactly the method's class
pub record IsMade (heap : Heap) (class : List ℕ) (a : ℕ) : Type 0 where
  pub here : heap a ≡ Some (object (class_type class) made)

-- or the own object, by a method of the current class or of its direct superclass
pub record IsOwn {A : Type 0} (m : Method A) (heap : Heap) (class : List ℕ) (a : ℕ) : Type 0 where
  pub type : ReferenceType
  pub here : heap a ≡ Some (object type this)
  pub class_of : (m.class ≡ class) ⊎ (m.superclass ≡ Some class)

-- beneath the arguments stands an object that the constructor may be called on
pub record HasReceiver {A : Type 0} (m : Method A) (class : List ℕ) (demands : List Demand) (s : State) : Type 0 where
  pub address : ℕ
  pub rest : List Value
  pub here : beneath demands s.stack ≡ reference address ∷ rest
  pub uninitialized : IsMade s.heap class address ⊎ IsOwn m s.heap class address

-- a local variable that meets the demand
pub record HasLocal (world : World) (demand : Demand) (local : ℕ) (s : State) : Type 0 where
  pub value : Value
  pub here : slice_get s.locals local ≡ Some (holds value)
  pub meets : Meets world s.heap demand value

-- a form that the stack fits
pub record HasForm (forms : List StackForm) (s : State) : Type 0 where
  pub form : StackForm
  pub among : IsAmong form forms
  pub fits : AreForm form.takes s.stack

-- what an instruction demands besides its operands on top of the stack: local variables, a form, a receiver, a class
abbrev pub MeetsRest : {A : Type 0} → World → Method A → Effect → State → Type 0
MeetsRest world m (reads demand local) s = HasLocal world demand local s
MeetsRest world m (writes demand local width) s = local + width ≤ m.max_locals
MeetsRest world m (increments local) s = HasLocal world (of_kind kinds.Int) local s
MeetsRest world m (moves forms) s = HasForm forms s
MeetsRest world m (initializes class demands) s = HasReceiver m class demands s
MeetsRest world m (calls_special class demands live reply) s = IsBelow world (class_type m.class) class
MeetsRest world m stuck s = ⊥
MeetsRest world m _ s = Unit {0}

-- ---- the stack afterwards is no wider than max_stack

abbrev pub HasRoom : {A : Type 0} → Method A → Effect → State → Type 0
HasRoom m (operates demands live reply offsets on) s =
    reply_units reply + depth_of (beneath demands s.stack) ≤ m.max_stack
HasRoom m (calls_special class demands live reply) s =
    reply_units reply + depth_of (beneath demands s.stack) ≤ m.max_stack
HasRoom m (reads demand local) s =
    (v : Value) → slice_get s.locals local ≡ Some (holds v) → units (is_wide_value v) + depth_of s.stack ≤ m.max_stack
HasRoom m (moves forms) s = (f : StackForm) → IsAmong f forms → AreForm f.takes s.stack
    → depth_of (rearranged f s.stack) ≤ m.max_stack
HasRoom m (creates class) s = 1 + depth_of s.stack ≤ m.max_stack
HasRoom m (makes_array demands type) s = 1 + depth_of (beneath demands s.stack) ≤ m.max_stack
HasRoom m _ s = Unit {0}

-- ---- uses of objects

-- An operand is used by all but comparisons, null tests and monitors; in the own object the fields of its class may be
-- set.
abbrev pub IsUsable : Heap → Demand → Value → Type 0
IsUsable heap (of_kind kind) v = Unit {0}
IsUsable heap some_reference v = Unit {0}
IsUsable heap (own_or_of class) v = IsReady heap v ⊎ IsThis heap v
IsUsable heap (of_type type) v = IsReady heap v
IsUsable heap some_array v = IsReady heap v
IsUsable heap (some_array_for p) v = IsReady heap v

abbrev pub AllUsable : Heap → List Demand → List Value → Type 0
AllUsable heap [] vs = Unit {0}
AllUsable heap (n ∷ ns) [] = Unit {0}
AllUsable heap (n ∷ ns) (v ∷ vs) = IsUsable heap n v × AllUsable heap ns vs

-- an instance initialization method returns when its own object is initialized
abbrev pub EndsReady : {A : Type 0} → Method A → Effect → State → Type 0
EndsReady m ends s = m.is_init ≡ true → HasNoThis s.heap
EndsReady m _ s = Unit {0}

-- ---- a state that is not a fault, in five parts

-- the operands and local variables are there, and of their types
pub record HasOperandsBy (effect : Effects) (world : World) (m : Method Act) (s : State) (act : Act) : Type 0 where
  pub operands : AllMeet world s.heap (demands_of (effect m act)) s.stack
  pub others : MeetsRest world m (effect m act) s
  pub all_locals : length s.locals ≡ m.max_locals
  pub paired : ArePaired s.locals

-- the stack is never wider than max_stack
pub record IsWithinStackBy (effect : Effects) (m : Method Act) (s : State) (act : Act) : Type 0 where
  pub before : depth_of s.stack ≤ m.max_stack
  pub after : HasRoom m (effect m act) s

-- where a branch leads an instruction begins
abbrev pub LeadsToStart : Method Act → ℤ → Type 0
LeadsToStart m target = (at : ℕ) × (target ≡ pos at) × IsStart m.code at

-- control stays on the starts of instructions: by branches, by going on, and where something is raised
pub record StaysOnStartsBy (effect : Effects) (m : Method Act) (s : State) (act : Act) : Type 0 where
  pub branches : (target : ℤ) → IsAmong target (targets s.at (effect m act)) → LeadsToStart m target
  pub next : falls (effect m act) ≡ true → (at : ℕ) × (next_offset m.code s.at ≡ Some at) × IsStart m.code at
  pub caught : (e : ExceptionEntry) → IsAmong e m.exceptions → covers e s.at ≡ true → IsStart m.code e.handler

-- no object is used before its constructor returned
pub record UsesReadyBy (effect : Effects) (m : Method Act) (s : State) (act : Act) : Type 0 where
  pub uses : AllUsable s.heap (demands_of (effect m act)) s.stack

-- no constructor returns before its own object is ready
pub record LeavesReadyBy (effect : Effects) (m : Method Act) (s : State) (act : Act) : Type 0 where
  pub own : EndsReady m (effect m act) s

pub record IsNoFaultBy (effect : Effects) (world : World) (m : Method Act) (s : State) : Type 0 where
  pub act : Act
  pub here : at_offset m.code s.at ≡ Some act
  pub operands : HasOperandsBy effect world m s act
  pub stack : IsWithinStackBy effect m s act
  pub control : StaysOnStartsBy effect m s act
  pub objects : UsesReadyBy effect m s act
  pub own_object : LeavesReadyBy effect m s act

-- ---- by the effects of all instructions

abbrev pub HasOperands : World → Method Act → State → Act → Type 0
HasOperands = HasOperandsBy tables.effect

abbrev pub IsWithinStack : Method Act → State → Act → Type 0
IsWithinStack = IsWithinStackBy tables.effect

abbrev pub StaysOnStarts : Method Act → State → Act → Type 0
StaysOnStarts = StaysOnStartsBy tables.effect

abbrev pub UsesReady : Method Act → State → Act → Type 0
UsesReady = UsesReadyBy tables.effect

abbrev pub LeavesReady : Method Act → State → Act → Type 0
LeavesReady = LeavesReadyBy tables.effect

abbrev pub IsNoFault : World → Method Act → State → Type 0
IsNoFault = IsNoFaultBy tables.effect
