-- Runs through the methods of classes in play (JVMS 2.6, 2.10, 2.11.8): a call may enter a method. What that method
-- returns answers the call, and what it raises is raised at the call.
use Rattle.std.specs.Prelude.{◌≡◌, ◌⊎◌, ℕ, Bool, true, false, nat_eq, bytes_eq, if◌then◌else◌, List, [], ◌∷◌, ◌++◌, length, slice_get, Option, Some, None, option_map}
use Rattle.names.specs.ReferenceTypes.{ReferenceType, class_type}
use Rattle.names.specs.StandardNames.{init_name}
use Rattle.pool.specs.ConstantMeanings.{MethodConstant, method_at}
use Rattle.classfile.specs.Methods.{Method, Receiver, own_receiver, receiver_of}
use Rattle.hierarchy.specs.World.{World}
use Rattle.insn.specs.Meanings as acts
use Rattle.insn.specs.Meanings.{Act}
use Rattle.insn.specs.Offsets.{at_offset, next_offset}
use Rattle.machine.specs.Values.{Value, reference, Slot, all_slots}
use Rattle.machine.specs.Heap.{Status, ready, this, Object, object, Heap, FitsReference, IsReady, with_fresh}
use Rattle.machine.specs.Effects.{Effect, leaves, effect}
use Rattle.machine.specs.Demands.{State, IsNoFault}
use Rattle.machine.specs.Steps.{Choice, raise, goes_on, ended, Happens, EndsBy}
use Rattle.machine.specs.Runs.{IsInitial}

-- a method with code of a class in play, by its name and descriptor
pub record Callee : Type 0 where
  pub name : List ℕ
  pub descriptor : List ℕ
  pub method : Method Act

-- ---- one map of run-time types for all, and readiness for each activation

abbrev pub Types : Type 0
Types = ℕ → Option ReferenceType

-- A method that runs. The status of an object that it made is `made`, and that of its own object `this`, until a
-- constructor of that object has returned to it. All other objects are ready for it.
pub record Activation : Type 0 where
  pub method : Method Act
  pub at : ℕ
  pub stack : List Value
  pub locals : List Slot
  pub status : ℕ → Status

-- the objects as an activation sees them
abbrev pub heap_in : Types → (ℕ → Status) → Heap
heap_in types status = λ a. option_map (λ x. object x (status a)) (types a)

abbrev pub state_in : Types → Activation → State
state_in types a = record { at = a.at; stack = a.stack; locals = a.locals; heap = heap_in types a.status }

abbrev pub types_of : Heap → Types
types_of heap = λ a. option_map (λ o. o.type) (heap a)

abbrev pub status_of : Option Object → Status
status_of None = ready
status_of (Some o) = o.status

abbrev pub activation : Method Act → State → Activation
activation m s = record {
  method = m;
  at = s.at;
  stack = s.stack;
  locals = s.locals;
  status =
      λ a. status_of (s.heap a);
}

-- a moment of a run: the run-time type of each object, and the activations, the last one first
pub record Moment : Type 0 where
  pub types : Types
  pub activations : List Activation

abbrev pub moment : Types → List Activation → Moment
moment types activations = record { types = types; activations = activations }

-- ---- calls

pub data Way : Type 0 where
  static special virtual : Way

abbrev pub by_way : Way → Option MethodConstant → Option (Way × MethodConstant)
by_way way constant = option_map (λ c. (way, c)) constant

-- by which way an instruction calls, and the method that it names
abbrev pub called : Method Act → Act → Option (Way × MethodConstant)
called m (acts.InvokeStatic i) = by_way static (method_at m.constant_pool i)
called m (acts.InvokeSpecial i) = by_way special (method_at m.constant_pool i)
called m (acts.InvokeVirtual i) = by_way virtual (method_at m.constant_pool i)
called m (acts.InvokeInterface i count) = by_way virtual (method_at m.constant_pool i)
called m _ = None

-- no receiver, or one that is not null
abbrev pub IsReceiver : Way → List Value → Type 0
IsReceiver static vs = vs ≡ []
IsReceiver special vs = (a : ℕ) × (vs ≡ reference a ∷ [])
IsReceiver virtual vs = (a : ℕ) × (vs ≡ reference a ∷ [])

-- one after the other, the last one on top
abbrev pub pushed : List Value → List Value → List Value
pushed [] below = below
pushed (v ∷ vs) below = pushed vs (v ∷ below)

-- the activation stands at a call, with its receiver and arguments on the stack
pub record IsCall (a : Activation) : Type 0 where
  pub act : Act
  pub here : at_offset a.method.code a.at ≡ Some act
  pub way : Way
  pub constant : MethodConstant
  pub calls : called a.method act ≡ Some (way, constant)
  pub receiver : List Value
  pub arguments : List Value
  pub below : List Value
  pub stack : a.stack ≡ pushed (receiver ++ arguments) below
  pub one : IsReceiver way receiver
  pub all : length arguments ≡ length constant.type.params

-- The methods that may be entered, of the name and descriptor that the call names: one of the class that it names; by a
-- virtual or interface call one of any class that the receiver fits.
abbrev pub MayEnter : World → Heap → Way → MethodConstant → List Value → Method Act → Type 0
MayEnter world heap static c receiver m = (m.is_static ≡ true) × (class_type m.class ≡ c.class)
MayEnter world heap special c receiver m = (m.is_static ≡ false) × (class_type m.class ≡ c.class)
MayEnter world heap virtual c receiver m =
    (m.is_static ≡ false) × ((a : ℕ) × (receiver ≡ reference a ∷ [])
    × FitsReference world heap (class_type m.class) (reference a))

-- a constructor's receiver is its own object, not initialized; all other objects are ready
abbrev pub first_status : Receiver → List Value → ℕ → Status
first_status own_receiver (reference own ∷ vs) a = if nat_eq own a then this else ready
first_status _ vs a = ready

-- The method before its first instruction, with this receiver and these arguments. They need not fit.
abbrev pub entered : Method Act → List Value → List Value → Activation
entered m receiver arguments = record {
  method = m;
  at = 0;
  stack = [];
  locals = all_slots m.max_locals (receiver ++ arguments);
  status = first_status (receiver_of m) receiver;
}

-- ---- what comes back

abbrev pub constructs : Way → MethodConstant → Bool
constructs special c = bytes_eq c.name init_name
constructs static c = false
constructs virtual c = false

-- the object whose constructor has returned is ready
abbrev pub status_after : Bool → List Value → (ℕ → Status) → ℕ → Status
status_after true (reference own ∷ vs) status a = if nat_eq own a then ready else status a
status_after _ vs status a = status a

abbrev pub on_top : Option Value → List Value → List Value
on_top None below = below
on_top (Some v) below = v ∷ below

abbrev pub IsReadyAnswer : Heap → Option Value → Type 0
IsReadyAnswer heap None = Unit {0}
IsReadyAnswer heap (Some v) = IsReady heap v

-- a constructor hands over nothing
abbrev pub taken : Bool → Option Value → Option Value
taken true answer = None
taken false answer = answer

-- the caller after its call
abbrev pub resumed : Activation → Bool → List Value → List Value → Option Value → ℕ → Activation
resumed a constructs receiver below answer to = record {
  method = a.method;
  at = to;
  stack = on_top (taken constructs answer) below;
  locals = a.locals;
  status = status_after constructs receiver a.status;
}

-- The caller goes on after its call. The answer is ready for it, and need not fit.
pub record GoesOn (types : Types) (a : Activation) (answer : Option Value) (b : Activation) : Type 0 where
  pub call : IsCall a
  pub to : ℕ
  pub next : next_offset a.method.code a.at ≡ Some to
  pub ready : IsReadyAnswer (heap_in types a.status) answer
  pub result : b ≡ resumed a (constructs call.way call.constant) call.receiver call.below answer to

-- the value that a return hands over, where it is one with a value
abbrev pub handed_over : Effect → List Value → Option Value
handed_over (leaves needs) stack = slice_get stack 0
handed_over _ stack = None

-- ---- steps

-- the last activation makes a step of its own, or catches what is raised
pub record StepsAlone (world : World) (types : Types) (a : Activation) (callers : List Activation) (c : Choice)
    (q : Moment) : Type 0 where
  pub state : State
  pub happens : Happens world a.method (state_in types a) c (goes_on state)
  pub result : q ≡ moment (types_of state.heap) (activation a.method state ∷ callers)

-- it is at a call, and a method in play is entered
pub record Enters (world : World) (InPlay : Callee → Type 0) (types : Types) (a : Activation)
    (callers : List Activation) (q : Moment) : Type 0 where
  pub no_fault : IsNoFault world a.method (state_in types a)
  pub call : IsCall a
  pub callee : Callee
  pub in_play : InPlay callee
  pub name : callee.name ≡ call.constant.name
  pub descriptor : callee.descriptor ≡ call.constant.descriptor
  pub may : MayEnter world (heap_in types a.status) call.way call.constant call.receiver callee.method
  pub result : q ≡ moment types (entered callee.method call.receiver call.arguments ∷ (a ∷ callers))

-- the caller gets the answer, if there is a caller
abbrev pub Answered : Types → Option Value → List Activation → Moment → Type 0
Answered types answer [] q = q ≡ moment types []
Answered types answer (a ∷ callers) q = (b : Activation) × GoesOn types a answer b × (q ≡ moment types (b ∷ callers))

-- it returns
pub record Returns (world : World) (types : Types) (a : Activation) (callers : List Activation)
    (q : Moment) : Type 0 where
  pub fresh : List (ℕ × ReferenceType)
  pub no_fault : IsNoFault world a.method (state_in types a)
  pub ends : EndsBy effect a.method (state_in types a) None None fresh
  pub answered : Answered (types_of (with_fresh (heap_in types a.status) fresh))
      (handed_over (effect a.method ends.act) a.stack) callers q

-- the object that was raised comes to the first caller that catches it; the activations of those that do not end
abbrev pub Unwinds : World → Types → ℕ → List Activation → Moment → Type 0
Unwinds world types address [] q = q ≡ moment types []
Unwinds world types address (a ∷ callers) q =
    ((entry : ℕ) × StepsAlone world types a callers (raise address [] (Some entry)) q)
    ⊎ (Happens world a.method (state_in types a) (raise address [] None) ended × Unwinds world types address callers q)

-- it raises an object that it does not catch
pub record Raises (world : World) (types : Types) (a : Activation) (callers : List Activation)
    (q : Moment) : Type 0 where
  pub address : ℕ
  pub fresh : List (ℕ × ReferenceType)
  pub happens : Happens world a.method (state_in types a) (raise address fresh None) ended
  pub unwinds : Unwinds world (types_of (with_fresh (heap_in types a.status) fresh)) address callers q

abbrev pub Goes : World → (Callee → Type 0) → Types → List Activation → Moment → Type 0
Goes world InPlay types [] q = ⊥
Goes world InPlay types (a ∷ callers) q =
    ((c : Choice) × StepsAlone world types a callers c q) ⊎ (Enters world InPlay types a callers q
    ⊎ (Returns world types a callers q ⊎ Raises world types a callers q))

-- ---- runs

-- one activation, in a state in which its method may begin
pub record Begins (world : World) (InPlay : Callee → Type 0) (q : Moment) : Type 0 where
  pub callee : Callee
  pub in_play : InPlay callee
  pub state : State
  pub initial : IsInitial world callee.method state
  pub result : q ≡ moment (types_of state.heap) (activation callee.method state ∷ [])

-- the moments of a run, the newest first
abbrev pub IsClassRun : World → (Callee → Type 0) → List Moment → Type 0
IsClassRun world InPlay [] = ⊥
IsClassRun world InPlay (q ∷ []) = Begins world InPlay q
IsClassRun world InPlay (q ∷ (p ∷ ps)) = Goes world InPlay p.types p.activations q × IsClassRun world InPlay (p ∷ ps)
