-- Beginnings and runs leave nothing out (JVMS 2.6, 2.6.1, 2.9.1, 4.10.1.6): a method begins with each receiver and all
-- arguments of its types, each in its local variable, and a run goes on by each step and each exception that is caught.
-- Which values a type has and which local variable holds which is said place by place, in words of their own: a
-- beginning without references, or a run that ends early, then breaks a law.
use Rattle.std.specs.Prelude.{◌≡◌, ℕ, suc, ◌<◌, ◌≤◌, ◌^◌, List, [], ◌∷◌, ◌++◌, length, take, slice_get, Some, Option}
use Rattle.names.specs.Descriptors.{FieldDescriptor, class}
use Rattle.names.specs.ReferenceTypes.{ReferenceType, class_type, dimensions_of}
use Rattle.classfile.specs.Methods.{Method, Receiver, no_receiver, ready_receiver, own_receiver, receiver_of}
use Rattle.hierarchy.specs.World.{World, IsSubclassIn}
use Rattle.insn.specs.Meanings.{Act}
use Rattle.machine.specs.Values.{Value, reference, Slot, empty, second, holds}
use Rattle.machine.specs.Heap.{made, this, Object, object, Heap}
use Rattle.machine.specs.ByType.{units_of, units_of_all, IsReadyOf, IsOf}
use Rattle.machine.specs.Demands.{State}
use Rattle.machine.specs.Steps.{go, raise, goes_on, Happens}
use Rattle.machine.specs.Runs.{IsInitial, IsRun}

-- ---- values in local variables

-- So many local variables: each value is in the one after those of the values before it, the second half of a long or
-- double in the next, and those after all values are empty.
pub record Hold (max_locals : ℕ) (values : List Value) (locals : List Slot) : Type 0 where
  pub many : length locals ≡ max_locals
  pub first : (i : ℕ) (v : Value) → slice_get values i ≡ Some v
      → slice_get locals (units_of_all (take i values)) ≡ Some (holds v)
  pub second_half : (i : ℕ) (v : Value) → slice_get values i ≡ Some v → units_of v ≡ 2
      → slice_get locals (suc (units_of_all (take i values))) ≡ Some second
  pub others : (at : ℕ) → units_of_all values ≤ at → at < max_locals → slice_get locals at ≡ Some empty

-- ---- beginnings

-- as many arguments as there are parameters, each of its parameter's type
pub record AreArguments (world : World) (heap : Heap) (params : List FieldDescriptor)
    (arguments : List Value) : Type 0 where
  pub many : length arguments ≡ length params
  pub each : (i : ℕ) (type : FieldDescriptor) (v : Value) → slice_get params i ≡ Some type
      → slice_get arguments i ≡ Some v → IsOf world heap type v

-- The receiver of a method: nothing; an object of its class; or its own object, of its class or one below it.
abbrev pub IsReceiver : World → Method Act → Heap → ℕ → Receiver → List Value → Type 0
IsReceiver world m heap own no_receiver vs = vs ≡ []
IsReceiver world m heap own ready_receiver vs = (a : ℕ) × (vs ≡ reference a ∷ [])
    × IsReadyOf world heap (class m.class) a
IsReceiver world m heap own own_receiver vs =
    (vs ≡ reference own ∷ []) × ((x : List ℕ) × (heap own ≡ Some (object (class_type x) this))
    × IsSubclassIn world x m.class)

-- A beginning of the method: at 0, with nothing on the stack, with these objects, and with these values in the local
-- variables.
pub record Begins (world : World) (m : Method Act) (heap : Heap) (values : List Value) : Type 0 where
  pub state : State
  pub at : state.at ≡ 0
  pub stack : state.stack ≡ []
  pub objects : state.heap ≡ heap
  pub locals : Hold m.max_locals values state.locals
  pub initial : IsInitial world m state

-- a method begins with every heap, with every receiver that it may have and with all arguments of its types
abbrev pub StartBreadth : Type 0
StartBreadth =
    (world : World) (m : Method Act) (heap : Heap) (own : ℕ) (receiver arguments : List Value)
    → IsReceiver world m heap own (receiver_of m) receiver → AreArguments world heap m.type.params arguments
    → units_of_all (receiver ++ arguments) ≤ m.max_locals
    → ((a : ℕ) (o : Object) → heap a ≡ Some o → (a < 2 ^ 32) × (dimensions_of o.type ≤ 255))
    → ((a : ℕ) (x : ReferenceType) → heap a ≡ Some (object x made) → ⊥)
    → ((a : ℕ) (x : ReferenceType) → heap a ≡ Some (object x this) → (receiver_of m ≡ own_receiver) × (a ≡ own))
    → Begins world m heap (receiver ++ arguments)

-- ---- runs

-- A beginning is a run, and a run with a step after it, or with an exception that is caught, is one.
pub record HasRuns (world : World) (m : Method Act) : Type 0 where
  pub begins : (s : State) → IsInitial world m s → IsRun world m (s ∷ [])
  pub steps : (s t : State) (ss : List State) (branch : Option ℕ) (answer : Option Value)
      (fresh : List (ℕ × ReferenceType))
      → IsRun world m (s ∷ ss) → Happens world m s (go branch answer fresh) (goes_on t) → IsRun world m (t ∷ (s ∷ ss))
  pub catches : (s t : State) (ss : List State) (address entry : ℕ) (fresh : List (ℕ × ReferenceType))
      → IsRun world m (s ∷ ss) → Happens world m s (raise address fresh (Some entry)) (goes_on t)
      → IsRun world m (t ∷ (s ∷ ss))

abbrev pub RunBreadth : Type 0
RunBreadth = (world : World) (m : Method Act) → HasRuns world m
