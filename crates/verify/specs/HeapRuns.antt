-- Class runs with what they store (JVMS 2.3, 2.4, 2.10, 6.5): a history has each value that was ever stored in a field
-- or in an array, and a read gives the default of its type or a value of the history. It is not asked that this fits.
use Rattle.std.specs.Prelude.{◌≡◌, ℕ, Bool, true, false, List, [], ◌∷◌, Option, Some, None, option_map, ◌⊎◌}
use Rattle.names.specs.Descriptors.{FieldDescriptor, primitive, class, array}
use Rattle.names.specs.ReferenceTypes.{ReferenceType, class_type, array_type}
use Rattle.pool.specs.ConstantMeanings.{FieldConstant, field_at}
use Rattle.classfile.specs.Methods.{Method}
use Rattle.hierarchy.specs.World.{World}
use Rattle.insn.specs.Kinds.{computed_as}
use Rattle.insn.specs.Meanings as acts
use Rattle.insn.specs.Meanings.{Act}
use Rattle.insn.specs.Offsets.{at_offset, next_offset, IsAmong}
use Rattle.machine.specs.Values.{Value, number, null, reference}
use Rattle.machine.specs.Heap.{ready, FitsField, IsReady, IsFresh, with_fresh}
use Rattle.machine.specs.Demands.{State, IsNoFault}
use Rattle.machine.specs.Steps.{Choice, go, raise, goes_on, moved_with, Happens}
use Rattle.verify.specs.ClassRuns.{Callee, Types, Activation, heap_in, state_in, types_of, activation, Moment, moment, StepsAlone, Enters, Returns, Raises, Begins}

-- ---- where values are stored

-- A field goes by its name and descriptor, whichever class declares it: each object has its own, and a static field
-- is one for all. The elements of an array are one place.
pub data Place : Type 0 where
  static_field : (name : List ℕ) (type : FieldDescriptor) → Place
  field : (address : ℕ) (name : List ℕ) (type : FieldDescriptor) → Place
  elements : (address : ℕ) → Place

-- a value that was stored
pub record Store : Type 0 where
  pub place : Place
  pub value : Value

abbrev pub store : Place → Value → Store
store place v = record { place = place; value = v }

-- all stores so far, the newest first
abbrev pub History : Type 0
History = List Store

abbrev pub component_of : Option ReferenceType → Option FieldDescriptor
component_of (Some (array_type component)) = Some component
component_of (Some (class_type name)) = None
component_of None = None

-- the type of a place, where its object is there: that of the descriptor, or the component of the array's run-time type
abbrev pub type_at : Types → Place → Option FieldDescriptor
type_at types (static_field name type) = Some type
type_at types (field address name type) = option_map (λ x. type) (types address)
type_at types (elements address) = component_of (types address)

-- the value fits by its type alone, as if each object were ready
abbrev pub FitsType : World → Types → FieldDescriptor → Value → Type 0
FitsType world types type v = FitsField world (heap_in types (λ a. ready)) type v

abbrev pub FitsPlace : World → Types → Place → Value → Type 0
FitsPlace world types place v =
    (type : FieldDescriptor) × (type_at types place ≡ Some type) × FitsType world types type v

-- a moment of a class run, and its history
pub record HeapMoment : Type 0 where
  pub now : Moment
  pub history : History

abbrev pub heap_moment : Moment → History → HeapMoment
heap_moment now history = record { now = now; history = history }

-- ---- reads

-- zero of its kind, or null (2.3, 2.4)
abbrev pub default_of : FieldDescriptor → Value
default_of (primitive p) = number (computed_as p)
default_of (class name) = null
default_of (array component) = null

-- the default of the place's type, or any value that was stored there
abbrev pub IsGiven : Types → History → Place → Value → Type 0
IsGiven types history place v =
    (option_map default_of (type_at types place) ≡ Some v) ⊎ IsAmong (store place v) history

-- getfield, getstatic, and the loads of elements: the place that is read, and the stack beneath the operands
abbrev pub Reads : Method Act → Act → List Value → Place → List Value → Type 0
Reads m (acts.GetStatic i) stack place below =
    (f : FieldConstant) × (field_at m.constant_pool i ≡ Some f) × (place ≡ static_field f.name f.type) × (below ≡ stack)
Reads m (acts.GetField i) stack place below =
    (f : FieldConstant) × (a : ℕ) × (field_at m.constant_pool i ≡ Some f) × (place ≡ field a f.name f.type)
    × (stack ≡ reference a ∷ below)
Reads m (acts.LoadElement p) stack place below =
    (i : Value) × (a : ℕ) × (place ≡ elements a) × (stack ≡ i ∷ reference a ∷ below)
Reads m acts.LoadReferenceElement stack place below =
    (i : Value) × (a : ℕ) × (place ≡ elements a) × (stack ≡ i ∷ reference a ∷ below)
Reads m _ stack place below = ⊥

-- The last activation reads, and goes on with a value that the place gives. That is ready for it, and need not fit.
pub record StepsByRead (world : World) (types : Types) (history : History) (a : Activation)
    (callers : List Activation) (q : HeapMoment) : Type 0 where
  pub no_fault : IsNoFault world a.method (state_in types a)
  pub act : Act
  pub here : at_offset a.method.code a.at ≡ Some act
  pub place : Place
  pub below : List Value
  pub reads : Reads a.method act a.stack place below
  pub value : Value
  pub given : IsGiven types history place value
  pub fresh : List (ℕ × ReferenceType)
  pub unused : IsFresh (heap_in types a.status) fresh
  pub ready : IsReady (with_fresh (heap_in types a.status) fresh) value
  pub to : ℕ
  pub next : next_offset a.method.code a.at ≡ Some to
  pub state : State
  pub after : state ≡ moved_with (state_in types a) to (value ∷ below) (with_fresh (heap_in types a.status) fresh)
  pub result : q ≡ heap_moment (moment (types_of state.heap) (activation a.method state ∷ callers)) history

-- ---- stores

-- putfield, putstatic, and the stores of elements: the place that is stored to, and the value on top of the stack
abbrev pub Writes : Method Act → Act → List Value → Place → Value → Type 0
Writes m (acts.PutStatic i) stack place v =
    (f : FieldConstant) × (rest : List Value) × (field_at m.constant_pool i ≡ Some f)
    × (place ≡ static_field f.name f.type) × (stack ≡ v ∷ rest)
Writes m (acts.PutField i) stack place v =
    (f : FieldConstant) × (a : ℕ) × (rest : List Value) × (field_at m.constant_pool i ≡ Some f)
    × (place ≡ field a f.name f.type) × (stack ≡ v ∷ reference a ∷ rest)
Writes m (acts.StoreElement p) stack place v =
    (i : Value) × (a : ℕ) × (rest : List Value) × (place ≡ elements a) × (stack ≡ v ∷ i ∷ reference a ∷ rest)
Writes m acts.StoreReferenceElement stack place v =
    (i : Value) × (a : ℕ) × (rest : List Value) × (place ≡ elements a) × (stack ≡ v ∷ i ∷ reference a ∷ rest)
Writes m _ stack place v = ⊥

-- An array takes what fits the component of its run-time type; with another value aastore only raises (6.5, aastore).
abbrev pub Takes : World → Types → Place → Value → Type 0
Takes world types (elements a) v = FitsPlace world types (elements a) v
Takes world types (field a name type) v = Unit {0}
Takes world types (static_field name type) v = Unit {0}

-- the last activation stores, and the history has one store more
pub record StepsByStore (world : World) (types : Types) (history : History) (a : Activation)
    (callers : List Activation) (q : HeapMoment) : Type 0 where
  pub act : Act
  pub here : at_offset a.method.code a.at ≡ Some act
  pub place : Place
  pub value : Value
  pub writes : Writes a.method act a.stack place value
  pub takes : Takes world types place value
  pub fresh : List (ℕ × ReferenceType)
  pub state : State
  pub happens : Happens world a.method (state_in types a) (go None None fresh) (goes_on state)
  pub result : q ≡ heap_moment (moment (types_of state.heap) (activation a.method state ∷ callers))
      (store place value ∷ history)

-- ---- all other steps

-- an instruction that reads or stores
abbrev pub is_access : Act → Bool
is_access (acts.GetStatic i) = true
is_access (acts.PutStatic i) = true
is_access (acts.GetField i) = true
is_access (acts.PutField i) = true
is_access (acts.LoadElement p) = true
is_access (acts.StoreElement p) = true
is_access acts.LoadReferenceElement = true
is_access acts.StoreReferenceElement = true
is_access _ = false

-- another instruction, or one that raises
abbrev pub IsNoAccess : Activation → Choice → Type 0
IsNoAccess a (go branch answer fresh) = (act : Act) → at_offset a.method.code a.at ≡ Some act → is_access act ≡ false
IsNoAccess a (raise address fresh entry) = Unit {0}

-- a step of a class run that neither reads nor stores
abbrev pub StepsElsewhere : World → (Callee → Type 0) → Types → List Activation → Moment → Type 0
StepsElsewhere world InPlay types [] q = ⊥
StepsElsewhere world InPlay types (a ∷ callers) q =
    ((c : Choice) × IsNoAccess a c × StepsAlone world types a callers c q) ⊎ (Enters world InPlay types a callers q
    ⊎ (Returns world types a callers q ⊎ Raises world types a callers q))

abbrev pub Accesses : World → Types → History → List Activation → HeapMoment → Type 0
Accesses world types history [] q = ⊥
Accesses world types history (a ∷ callers) q =
    StepsByRead world types history a callers q ⊎ StepsByStore world types history a callers q

-- Another thread, or a method that is not in play, stores a value that fits.
pub record OthersStore (world : World) (p q : HeapMoment) : Type 0 where
  pub place : Place
  pub value : Value
  pub fits : FitsPlace world p.now.types place value
  pub result : q ≡ heap_moment p.now (store place value ∷ p.history)

abbrev pub GoesWithHeap : World → (Callee → Type 0) → HeapMoment → HeapMoment → Type 0
GoesWithHeap world InPlay p q =
    (StepsElsewhere world InPlay p.now.types p.now.activations q.now × (q.history ≡ p.history))
    ⊎ (Accesses world p.now.types p.history p.now.activations q ⊎ OthersStore world p q)

-- ---- runs

-- the moments of a run, the newest first; nothing is stored when it begins
abbrev pub IsHeapRun : World → (Callee → Type 0) → List HeapMoment → Type 0
IsHeapRun world InPlay [] = ⊥
IsHeapRun world InPlay (q ∷ []) = Begins world InPlay q.now × (q.history ≡ [])
IsHeapRun world InPlay (q ∷ (p ∷ ps)) = GoesWithHeap world InPlay p q × IsHeapRun world InPlay (p ∷ ps)
