-- Class runs leave nothing out (JVMS 2.6, 2.9.1, 2.10, 6.5): each method in play that a call selects is entered with
-- the call's values, each return resumes its caller with any answer that is ready for it, and each object that is
-- raised comes to the caller that catches it, past those that do not. Values are told one by one and objects address by
-- address, in words of their own: a call that enters nothing, an activation with another's objects, or a caller that is
-- passed over then breaks a law.
use Rattle.std.specs.Prelude.{◌≡◌, ℕ, suc, ◌+◌, ◌-◌, Bool, true, false, nat_eq, bytes_eq, if◌then◌else◌, List, [], ◌∷◌, ◌++◌, length, drop, slice_get, Option, Some, None}
use Rattle.names.specs.Descriptors.{class}
use Rattle.names.specs.ReferenceTypes.{ReferenceType, class_type}
use Rattle.names.specs.StandardNames.{init_name}
use Rattle.pool.specs.ConstantMeanings.{MethodConstant, method_at}
use Rattle.classfile.specs.Methods.{JudgedClass, Method, own_receiver, receiver_of}
use Rattle.hierarchy.specs.World.{World}
use Rattle.insn.specs.Meanings as acts
use Rattle.insn.specs.Meanings.{Act}
use Rattle.insn.specs.Offsets.{at_offset, next_offset, IsAmong}
use Rattle.machine.specs.Values.{Value, number, null, reference, all_slots}
use Rattle.machine.specs.Heap.{ready, this, Object, object, Heap}
use Rattle.machine.specs.ByAct.{is_return}
use Rattle.machine.specs.ByType.{IsReadyOf}
use Rattle.machine.specs.Breadth.{AreNew}
use Rattle.machine.specs.Demands.{State, IsNoFault}
use Rattle.machine.specs.Steps.{Choice, raise, goes_on, ended, Happens}
use Rattle.machine.specs.Runs.{IsInitial}
use Rattle.verify.specs.ClassRuns.{Callee, Types, Activation, heap_in, state_in, Moment, IsClassRun}
use Rattle.verify.specs.ClassRunSafety.{IsInPlay}

-- ---- moments

-- a run that has come to one moment goes on to another
abbrev pub Follows : World → (Callee → Type 0) → Moment → Moment → Type 0
Follows world InPlay p q = (ps : List Moment) → IsClassRun world InPlay (p ∷ ps)
    → IsClassRun world InPlay (q ∷ (p ∷ ps))

-- an activation sees all objects, each with its own readiness
pub record Sees (types : Types) (a : Activation) (s : State) : Type 0 where
  pub at : s.at ≡ a.at
  pub stack : s.stack ≡ a.stack
  pub locals : s.locals ≡ a.locals
  pub objects : (address : ℕ) (x : ReferenceType) → types address ≡ Some x
      → s.heap address ≡ Some (object x (a.status address))
  pub others : (address : ℕ) → types address ≡ None → s.heap address ≡ None

-- the last activation is of this method and in this state
pub record Shows (m : Method Act) (s : State) (callers : List Activation) (q : Moment) : Type 0 where
  pub last : Activation
  pub activations : q.activations ≡ last ∷ callers
  pub method : last.method ≡ m
  pub at : last.at ≡ s.at
  pub stack : last.stack ≡ s.stack
  pub locals : last.locals ≡ s.locals
  pub objects : (address : ℕ) (o : Object) → s.heap address ≡ Some o → (q.types address ≡ Some o.type)
      × (last.status address ≡ o.status)
  pub others : (address : ℕ) → s.heap address ≡ None → q.types address ≡ None

-- the types with those of new objects
abbrev pub with_types : Types → List (ℕ × ReferenceType) → Types
with_types types [] = types
with_types types (x ∷ xs) = with_types (λ a. if nat_eq x.0 a then Some x.1 else types a) xs

-- ---- calls

-- the method that a call names
abbrev pub named_method : Method Act → Act → Option MethodConstant
named_method m (acts.InvokeVirtual i) = method_at m.constant_pool i
named_method m (acts.InvokeSpecial i) = method_at m.constant_pool i
named_method m (acts.InvokeStatic i) = method_at m.constant_pool i
named_method m (acts.InvokeInterface i count) = method_at m.constant_pool i
named_method m _ = None

-- a call has one receiver, but a static one has none
abbrev pub receivers : Act → ℕ
receivers (acts.InvokeStatic i) = 0
receivers _ = 1

-- the first value is the object at an address
abbrev pub IsOn : ℕ → List Value → Type 0
IsOn address values = slice_get values 0 ≡ Some (reference address)

-- the receiver is not null
abbrev pub HasReceiver : Act → List Value → Type 0
HasReceiver (acts.InvokeStatic i) values = Unit {0}
HasReceiver _ values = (address : ℕ) × IsOn address values

-- the values are on the stack, the last one on top
pub record AreOnTop (values below stack : List Value) : Type 0 where
  pub each : (i : ℕ) (v : Value) → slice_get values i ≡ Some v → slice_get stack (length values - suc i) ≡ Some v
  pub beneath : drop (length values) stack ≡ below

-- the activation is at a call of this method with these values, the receiver first
pub record Calls (a : Activation) (act : Act) (c : MethodConstant) (values below : List Value) : Type 0 where
  pub here : at_offset a.method.code a.at ≡ Some act
  pub named : named_method a.method act ≡ Some c
  pub many : length values ≡ receivers act + length c.type.params
  pub on_top : AreOnTop values below a.stack
  pub receiver : HasReceiver act values

-- the receiver's class is this one or below it
abbrev pub IsOfClass : World → Heap → List ℕ → List Value → Type 0
IsOfClass world heap name values = (address : ℕ) × IsOn address values × IsReadyOf world heap (class name) address

-- A method that a call may select: by a static or special call one of the class that is named, static or not; by a
-- virtual or interface call one of any class that is the receiver's or above it.
abbrev pub MaySelect : World → Heap → Act → MethodConstant → List Value → Method Act → Type 0
MaySelect world heap (acts.InvokeStatic i) c values m = (m.is_static ≡ true) × (class_type m.class ≡ c.class)
MaySelect world heap (acts.InvokeSpecial i) c values m = (m.is_static ≡ false) × (class_type m.class ≡ c.class)
MaySelect world heap (acts.InvokeVirtual i) c values m = (m.is_static ≡ false) × IsOfClass world heap m.class values
MaySelect world heap (acts.InvokeInterface i count) c values m = (m.is_static ≡ false)
    × IsOfClass world heap m.class values
MaySelect world heap _ c values m = ⊥

pub record Selects (world : World) (types : Types) (a : Activation) (act : Act) (c : MethodConstant)
    (values : List Value) (k : Callee) : Type 0 where
  pub name : k.name ≡ c.name
  pub descriptor : k.descriptor ≡ c.descriptor
  pub method : MaySelect world (heap_in types a.status) act c values k.method

-- the own object of a constructor that is called
abbrev pub IsOwnObject : Method Act → List Value → ℕ → Type 0
IsOwnObject m values address = (receiver_of m ≡ own_receiver) × IsOn address values

-- the method is entered: at its beginning, with the values in its locals, and all objects are ready but its own one
pub record IsEntered (types : Types) (m : Method Act) (values : List Value) (callers : List Activation)
    (q : Moment) : Type 0 where
  pub last : Activation
  pub activations : q.activations ≡ last ∷ callers
  pub types_stay : q.types ≡ types
  pub method : last.method ≡ m
  pub at : last.at ≡ 0
  pub stack : last.stack ≡ []
  pub locals : last.locals ≡ all_slots m.max_locals values
  pub own : (address : ℕ) → IsOwnObject m values address → last.status address ≡ this
  pub others : (address : ℕ) → (IsOwnObject m values address → ⊥) → last.status address ≡ ready

-- ---- returns

-- a return with a value hands over the one on top
abbrev pub handed : Act → List Value → Option Value
handed (acts.Return kind) stack = slice_get stack 0
handed acts.ReturnReference stack = slice_get stack 0
handed _ stack = None

-- nothing, a number, null, or an object that is ready for the activation
abbrev pub IsReadyFor : Types → Activation → Option Value → Type 0
IsReadyFor types a None = Unit {0}
IsReadyFor types a (Some (number kind)) = Unit {0}
IsReadyFor types a (Some null) = Unit {0}
IsReadyFor types a (Some (reference address)) = (x : ReferenceType) × (types address ≡ Some x)
    × (a.status address ≡ ready)

abbrev pub is_constructor_call : Act → MethodConstant → Bool
is_constructor_call (acts.InvokeSpecial i) c = bytes_eq c.name init_name
is_constructor_call _ c = false

abbrev pub with_answer : Option Value → List Value → List Value
with_answer None below = below
with_answer (Some v) below = v ∷ below

-- after a call of a method that is not a constructor: the answer is on what was beneath the values
pub record IsAnswered (a : Activation) (below : List Value) (answer : Option Value) (b : Activation) : Type 0 where
  pub stack : b.stack ≡ with_answer answer below
  pub objects : (address : ℕ) → b.status address ≡ a.status address

-- after a call of a constructor: its object is ready
pub record IsConstructed (a : Activation) (values below : List Value) (b : Activation) : Type 0 where
  pub stack : b.stack ≡ below
  pub own : (address : ℕ) → IsOn address values → b.status address ≡ ready
  pub others : (address : ℕ) → (IsOn address values → ⊥) → b.status address ≡ a.status address

-- the caller goes on
pub record IsResumed (a : Activation) (act : Act) (c : MethodConstant) (values below : List Value)
    (answer : Option Value) (to : ℕ)
    (types : Types) (callers : List Activation) (q : Moment) : Type 0 where
  pub last : Activation
  pub activations : q.activations ≡ last ∷ callers
  pub types_are : q.types ≡ types
  pub method : last.method ≡ a.method
  pub at : last.at ≡ to
  pub locals : last.locals ≡ a.locals
  pub answered : is_constructor_call act c ≡ false → IsAnswered a below answer last
  pub constructed : is_constructor_call act c ≡ true → IsConstructed a values below last

-- the activation returns, and meanwhile these objects come into being
pub record IsReturn (world : World) (types : Types) (a : Activation) (act : Act)
    (fresh : List (ℕ × ReferenceType)) : Type 0 where
  pub no_fault : IsNoFault world a.method (state_in types a)
  pub here : at_offset a.method.code a.at ≡ Some act
  pub returns : is_return act ≡ true
  pub new : AreNew (heap_in types a.status) fresh

-- ---- exceptions

-- the activation raises the object, or does not catch it; and meanwhile these come into being
abbrev pub Throws : World → Types → ℕ → List (ℕ × ReferenceType) → Activation → Type 0
Throws world types address fresh a = Happens world a.method (state_in types a) (raise address fresh None) ended

abbrev pub DoNotCatch : World → Types → ℕ → List Activation → Type 0
DoNotCatch world types address passed = (a : Activation) → IsAmong a passed → Throws world types address [] a

-- ---- nothing is left out

pub record HasClassRuns (world : World) (InPlay : Callee → Type 0) : Type 0 where
  pub views : (types : Types) (a : Activation) → Sees types a (state_in types a)
  -- a method in play begins in each state in which it may
  pub begins : (k : Callee) → InPlay k → (s : State) → IsInitial world k.method s → (q : Moment)
      × IsClassRun world InPlay (q ∷ []) × Shows k.method s [] q
  -- the last activation makes each step of its method, also to a handler of its own
  pub steps : (p : Moment) (a : Activation) (callers : List Activation) → p.activations ≡ a ∷ callers
      → (choice : Choice) (s : State) → Happens world a.method (state_in p.types a) choice (goes_on s)
      → (q : Moment) × Follows world InPlay p q × Shows a.method s callers q
  -- each method in play that a call selects is entered, whatever its values are
  pub calls : (p : Moment) (a : Activation) (callers : List Activation) → p.activations ≡ a ∷ callers
      → IsNoFault world a.method (state_in p.types a)
      → (act : Act) (c : MethodConstant) (values below : List Value) → Calls a act c values below
      → (k : Callee) → InPlay k → Selects world p.types a act c values k
      → (q : Moment) × Follows world InPlay p q × IsEntered p.types k.method values (a ∷ callers) q
  -- each return resumes the caller with its answer, whatever the type of that is
  pub returns : (p : Moment) (a b : Activation) (callers : List Activation) → p.activations ≡ a ∷ (b ∷ callers)
      → (left : Act) (fresh : List (ℕ × ReferenceType)) → IsReturn world p.types a left fresh
      → (act : Act) (c : MethodConstant) (values below : List Value) → Calls b act c values below
      → (to : ℕ) → next_offset b.method.code b.at ≡ Some to
      → IsReadyFor (with_types p.types fresh) b (handed left a.stack)
      → (q : Moment) × Follows world InPlay p q
      × IsResumed b act c values below (handed left a.stack) to (with_types p.types fresh) callers q
  -- the first activation ends the run
  pub ends : (p : Moment) (a : Activation) → p.activations ≡ a ∷ []
      → (left : Act) (fresh : List (ℕ × ReferenceType)) → IsReturn world p.types a left fresh
      → (q : Moment) × Follows world InPlay p q × (q.activations ≡ [])
  -- an object that is raised passes each caller that does not catch it and comes to the one that does
  pub catches : (p : Moment) (a b : Activation) (passed callers : List Activation)
      → p.activations ≡ a ∷ (passed ++ (b ∷ callers))
      → (address : ℕ) (fresh : List (ℕ × ReferenceType)) → Throws world p.types address fresh a
      → DoNotCatch world (with_types p.types fresh) address passed
      → (entry : ℕ) (s : State) → Happens world b.method (state_in (with_types p.types fresh) b)
      (raise address [] (Some entry)) (goes_on s)
      → (q : Moment) × Follows world InPlay p q × Shows b.method s callers q
  -- where none catches it, the run ends
  pub uncaught : (p : Moment) (a : Activation) (passed : List Activation) → p.activations ≡ a ∷ passed
      → (address : ℕ) (fresh : List (ℕ × ReferenceType)) → Throws world p.types address fresh a
      → DoNotCatch world (with_types p.types fresh) address passed
      → (q : Moment) × Follows world InPlay p q × (q.activations ≡ [])

-- whatever the classes in play are
abbrev pub ClassRunBreadth : Type 0
ClassRunBreadth = (world : World) (cs : List JudgedClass) → HasClassRuns world (IsInPlay cs)
