-- Class runs with a history leave nothing out and add nothing (JVMS 2.3, 2.4, 6.5): each value that was stored in a
-- place can be read from it, and so can the default; each store is kept for good; and others may store each value of
-- the place's type, and no other. Places, defaults and values of a type are told in words of their own.
use Rattle.std.specs.Prelude.{◌≡◌, ℕ, List, [], ◌∷◌, ◌++◌, drop, slice_get, Option, Some, None, option_map, ◌⊎◌}
use Rattle.names.specs.declared.base.Primitive.{Primitive}
use Rattle.names.specs.Descriptors.{FieldDescriptor, primitive}
use Rattle.names.specs.ReferenceTypes.{ReferenceType, array_type, descriptor_of}
use Rattle.pool.specs.ConstantMeanings.{FieldConstant, field_at}
use Rattle.classfile.specs.Methods.{JudgedClass, Method}
use Rattle.hierarchy.specs.World.{World}
use Rattle.hierarchy.specs.Class.{ClassFact}
use Rattle.hierarchy.specs.Extends.{Extends}
use Rattle.insn.specs.Meanings as acts
use Rattle.insn.specs.Meanings.{Act}
use Rattle.insn.specs.Offsets.{at_offset, next_offset, IsAmong}
use Rattle.machine.specs.Values.{Value, number, null, reference}
use Rattle.machine.specs.Heap.{IsBelowType}
use Rattle.machine.specs.ByType.{kind_of, IsOfReferences}
use Rattle.machine.specs.Breadth.{AreNew}
use Rattle.machine.specs.Demands.{State, IsNoFault}
use Rattle.machine.specs.Steps.{Choice, go, raise}
use Rattle.machine.specs.Runs.{IsInitial}
use Rattle.verify.specs.ClassRuns.{Callee, Types, Activation, heap_in, state_in, Moment, StepsAlone, Enters, Returns, Raises, IsClassRun}
use Rattle.verify.specs.ClassRunSafety.{IsInPlay}
use Rattle.verify.specs.ClassRunBreadth.{Shows, IsReadyFor, with_types}
use Rattle.verify.specs.HeapRuns.{Place, static_field, field, elements, Store, store, HeapMoment, IsHeapRun}
use Rattle.verify.specs.HeapRunSafety.{ArePlayableWithHeap}

-- a run that has come to one moment goes on to another
abbrev pub GoesOnTo : World → (Callee → Type 0) → HeapMoment → HeapMoment → Type 0
GoesOnTo world InPlay p q = (ps : List HeapMoment) → IsHeapRun world InPlay (p ∷ ps)
    → IsHeapRun world InPlay (q ∷ (p ∷ ps))

-- ---- the place of an instruction, by its constant and the stack

abbrev pub address_of : Option Value → Option ℕ
address_of (Some (reference a)) = Some a
address_of (Some (number kind)) = None
address_of (Some null) = None
address_of None = None

abbrev pub static_place : Option FieldConstant → Option Place
static_place constant = option_map (λ f. static_field f.name f.type) constant

abbrev pub field_place : Option FieldConstant → Option ℕ → Option Place
field_place None address = None
field_place (Some f) address = option_map (λ a. field a f.name f.type) address

abbrev pub element_place : Option ℕ → Option Place
element_place address = option_map elements address

abbrev pub place_read : Method Act → Act → List Value → Option Place
place_read m (acts.GetStatic i) stack = static_place (field_at m.constant_pool i)
place_read m (acts.GetField i) stack = field_place (field_at m.constant_pool i) (address_of (slice_get stack 0))
place_read m (acts.LoadElement p) stack = element_place (address_of (slice_get stack 1))
place_read m acts.LoadReferenceElement stack = element_place (address_of (slice_get stack 1))
place_read m _ stack = None

abbrev pub place_stored_to : Method Act → Act → List Value → Option Place
place_stored_to m (acts.PutStatic i) stack = static_place (field_at m.constant_pool i)
place_stored_to m (acts.PutField i) stack = field_place (field_at m.constant_pool i) (address_of (slice_get stack 1))
place_stored_to m (acts.StoreElement p) stack = element_place (address_of (slice_get stack 2))
place_stored_to m acts.StoreReferenceElement stack = element_place (address_of (slice_get stack 2))
place_stored_to m _ stack = None

-- how many operands a read or a store takes
abbrev pub operands_of_access : Act → ℕ
operands_of_access (acts.GetStatic i) = 0
operands_of_access (acts.GetField i) = 1
operands_of_access (acts.PutStatic i) = 1
operands_of_access (acts.StoreElement p) = 3
operands_of_access acts.StoreReferenceElement = 3
operands_of_access _ = 2

-- ---- the values of a place

-- the type of a field is that of its descriptor, and that of elements the component of the array's run-time type
abbrev pub IsOfType : Types → Place → FieldDescriptor → Type 0
IsOfType types (static_field name declared) type = type ≡ declared
IsOfType types (field a name declared) type = (type ≡ declared) × ((x : ReferenceType) × (types a ≡ Some x))
IsOfType types (elements a) type = types a ≡ Some (array_type type)

-- a value of the type, ready or not
abbrev pub IsValueOf : World → Types → FieldDescriptor → Value → Type 0
IsValueOf world types type (number kind) = (p : Primitive) × (type ≡ primitive p) × (kind ≡ kind_of p)
IsValueOf world types type null = IsOfReferences type
IsValueOf world types type (reference a) =
    IsOfReferences type × ((x : ReferenceType) × (types a ≡ Some x) × IsBelowType world (descriptor_of x) type)

abbrev pub MayHold : World → Types → Place → Value → Type 0
MayHold world types place v = (type : FieldDescriptor) × IsOfType types place type × IsValueOf world types type v

abbrev pub IsDefault : FieldDescriptor → Value → Type 0
IsDefault type v = ((p : Primitive) × (type ≡ primitive p) × (v ≡ number (kind_of p)))
    ⊎ (IsOfReferences type × (v ≡ null))

-- the default of its type, or a value that was stored there at any time
abbrev pub MayGive : HeapMoment → Place → Value → Type 0
MayGive p place v = ((type : FieldDescriptor) × IsOfType p.now.types place type × IsDefault type v)
    ⊎ IsAmong (store place v) p.history

-- aastore is asked whether the value is of the component's type; no other store is asked
abbrev pub MayTake : World → Types → Act → Place → Value → Type 0
MayTake world types acts.StoreReferenceElement place v = MayHold world types place v
MayTake world types _ place v = Unit {0}

-- ---- steps

-- the last activation after a read or a store: at the next offset, with this stack, and all else as it was
pub record IsAfter (p : HeapMoment) (a : Activation) (stack : List Value) (fresh : List (ℕ × ReferenceType)) (to : ℕ)
    (callers : List Activation) (q : HeapMoment) : Type 0 where
  pub last : Activation
  pub activations : q.now.activations ≡ last ∷ callers
  pub types_are : q.now.types ≡ with_types p.now.types fresh
  pub method : last.method ≡ a.method
  pub at : last.at ≡ to
  pub stack_is : last.stack ≡ stack
  pub locals : last.locals ≡ a.locals
  pub objects : (address : ℕ) (x : ReferenceType) → p.now.types address ≡ Some x
      → last.status address ≡ a.status address

-- the last activation of a moment is at this instruction, which is no fault, and goes on to an offset
pub record IsAt (world : World) (p : HeapMoment) (a : Activation) (callers : List Activation) (act : Act)
    (fresh : List (ℕ × ReferenceType)) (to : ℕ) : Type 0 where
  pub activations : p.now.activations ≡ a ∷ callers
  pub no_fault : IsNoFault world a.method (state_in p.now.types a)
  pub here : at_offset a.method.code a.at ≡ Some act
  pub new : AreNew (heap_in p.now.types a.status) fresh
  pub next : next_offset a.method.code a.at ≡ Some to

-- the last activation reads from the place
pub record IsReadOf (p : HeapMoment) (a : Activation) (callers : List Activation) (act : Act) (place : Place)
    (q : HeapMoment) : Type 0 where
  pub value : Value
  pub given : MayGive p place value
  pub fresh : List (ℕ × ReferenceType)
  pub to : ℕ
  pub next : next_offset a.method.code a.at ≡ Some to
  pub after : IsAfter p a (value ∷ drop (operands_of_access act) a.stack) fresh to callers q
  pub history : q.history ≡ p.history

-- it stores the value in the place
pub record IsStoreTo (world : World) (p : HeapMoment) (a : Activation) (callers : List Activation) (act : Act)
    (place : Place) (v : Value) (q : HeapMoment) : Type 0 where
  pub taken : MayTake world p.now.types act place v
  pub fresh : List (ℕ × ReferenceType)
  pub to : ℕ
  pub next : next_offset a.method.code a.at ≡ Some to
  pub after : IsAfter p a (drop (operands_of_access act) a.stack) fresh to callers q
  pub history : q.history ≡ store place v ∷ p.history

-- it raises an object, to a handler of its own or to a caller; or it waits while others store
abbrev pub RaisesOrWaits : World → HeapMoment → Activation → List Activation → HeapMoment → Type 0
RaisesOrWaits world p a callers q =
    ((address : ℕ) × (fresh : List (ℕ × ReferenceType)) × (entry : Option ℕ)
    × StepsAlone world p.now.types a callers (raise address fresh entry) q.now)
    ⊎ (Raises world p.now.types a callers q.now ⊎ (q.now ≡ p.now))

-- ---- class runs whose answers come from a history

-- a read is answered by a value that its place may give, and aastore stores one that the array may take
abbrev pub ComesFromHistory : World → HeapMoment → Activation → Choice → Type 0
ComesFromHistory world p a (raise address fresh entry) = Unit {0}
ComesFromHistory world p a (go branch answer fresh) =
    (act : Act) → at_offset a.method.code a.at ≡ Some act
    → ((place : Place) → place_read a.method act a.stack ≡ Some place
    → (v : Value) × (answer ≡ Some v) × MayGive p place v)
    × ((place : Place) (v : Value) → place_stored_to a.method act a.stack ≡ Some place
    → slice_get a.stack 0 ≡ Some v → MayTake world p.now.types act place v)

-- a step of a class run: calls, returns and exceptions take nothing from the history
abbrev pub GoesByHistory : World → (Callee → Type 0) → HeapMoment → List Activation → Moment → Type 0
GoesByHistory world InPlay p [] q = ⊥
GoesByHistory world InPlay p (a ∷ callers) q =
    ((c : Choice) × ComesFromHistory world p a c × StepsAlone world p.now.types a callers c q)
    ⊎ (Enters world InPlay p.now.types a callers q
    ⊎ (Returns world p.now.types a callers q ⊎ Raises world p.now.types a callers q))

-- ---- nothing is left out, and nothing is added

pub record HasHeapRuns (world : World) (InPlay : Callee → Type 0) : Type 0 where
  -- a method in play begins in each state in which it may, and nothing is stored yet
  pub begins : (k : Callee) → InPlay k → (s : State) → IsInitial world k.method s → (q : HeapMoment)
      × IsHeapRun world InPlay (q ∷ []) × Shows k.method s [] q.now × (q.history ≡ [])
  -- each step of a class run whose answer comes from the history is one here
  pub class_runs : (p : HeapMoment) (q : Moment) → GoesByHistory world InPlay p p.now.activations q
      → (h : HeapMoment) × (h.now ≡ q) × GoesOnTo world InPlay p h
  -- each value that the place may give is read, whatever its type is, if it is ready for the activation
  pub reads : (p : HeapMoment) (a : Activation) (callers : List Activation) (act : Act)
      (fresh : List (ℕ × ReferenceType)) (to : ℕ) → IsAt world p a callers act fresh to
      → (place : Place) → place_read a.method act a.stack ≡ Some place
      → (v : Value) → MayGive p place v → IsReadyFor (with_types p.now.types fresh) a (Some v)
      → (q : HeapMoment) × GoesOnTo world InPlay p q
      × IsAfter p a (v ∷ drop (operands_of_access act) a.stack) fresh to callers q × (q.history ≡ p.history)
  -- each value is stored in its place, and in no other
  pub stores : (p : HeapMoment) (a : Activation) (callers : List Activation) (act : Act)
      (fresh : List (ℕ × ReferenceType)) (to : ℕ) → IsAt world p a callers act fresh to
      → (place : Place) → place_stored_to a.method act a.stack ≡ Some place
      → (v : Value) → slice_get a.stack 0 ≡ Some v → MayTake world p.now.types act place v
      → (q : HeapMoment) × GoesOnTo world InPlay p q
      × IsAfter p a (drop (operands_of_access act) a.stack) fresh to callers q × (q.history ≡ store place v ∷ p.history)
  -- others store each value that the place may hold
  pub others : (p : HeapMoment) (place : Place) (v : Value) → MayHold world p.now.types place v
      → (q : HeapMoment) × GoesOnTo world InPlay p q × (q.now ≡ p.now) × (q.history ≡ store place v ∷ p.history)
  -- a store stays, whatever happens
  pub keeps : (p q : HeapMoment) (ps : List HeapMoment) → IsHeapRun world InPlay (q ∷ (p ∷ ps))
      → (s : Store) → IsAmong s p.history → IsAmong s q.history
  -- no place has a value that it may not hold, and none has a value before its object is there
  pub holds : (p : HeapMoment) (ps : List HeapMoment) → IsHeapRun world InPlay (p ∷ ps)
      → (place : Place) (v : Value) → IsAmong (store place v) p.history → MayHold world p.now.types place v
  -- an instruction that reads gives nothing else, and one that stores goes on after no other store
  pub only_reads : (p q : HeapMoment) (ps : List HeapMoment) → IsHeapRun world InPlay (q ∷ (p ∷ ps))
      → (a : Activation) (callers : List Activation) → p.now.activations ≡ a ∷ callers
      → (act : Act) → at_offset a.method.code a.at ≡ Some act
      → (place : Place) → place_read a.method act a.stack ≡ Some place
      → IsReadOf p a callers act place q ⊎ RaisesOrWaits world p a callers q
  pub only_stores : (p q : HeapMoment) (ps : List HeapMoment) → IsHeapRun world InPlay (q ∷ (p ∷ ps))
      → (a : Activation) (callers : List Activation) → p.now.activations ≡ a ∷ callers
      → (act : Act) → at_offset a.method.code a.at ≡ Some act
      → (place : Place) (v : Value) → place_stored_to a.method act a.stack ≡ Some place → slice_get a.stack 0 ≡ Some v
      → IsStoreTo world p a callers act place v q ⊎ RaisesOrWaits world p a callers q
  -- without its history it is a class run
  pub is_class_run : (p : HeapMoment) (ps : List HeapMoment) → IsHeapRun world InPlay (p ∷ ps)
      → (qs : List Moment) × IsClassRun world InPlay (p.now ∷ qs)

-- of any classes in play
abbrev pub HeapRunBreadth : Type 0
HeapRunBreadth = (world : World) (cs : List JudgedClass) → HasHeapRuns world (IsInPlay cs)

-- classes that are playable: no activation is at a fault in any moment to which a run comes
abbrev pub EachMomentIsSafe : Type 0
EachMomentIsSafe =
    (classes : List ClassFact) (cs : List JudgedClass) → ArePlayableWithHeap classes cs
    → (world : World) → Extends world classes
    → (p : HeapMoment) (ps : List HeapMoment) → IsHeapRun world (IsInPlay cs) (p ∷ ps)
    → (above below : List Activation) (a : Activation) → p.now.activations ≡ above ++ (a ∷ below)
    → IsNoFault world a.method (state_in p.now.types a)
