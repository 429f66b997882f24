-- Runs of a method: from a state in which it may begin, step by step (JVMS 2.6, 2.9.1, 4.10.1.6).
use Rattle.std.specs.Prelude.{◌≡◌, ℕ, ◌≤◌, List, [], ◌∷◌, ◌++◌, length, Some}
use Rattle.names.specs.ReferenceTypes.{ReferenceType, class_type}
use Rattle.hierarchy.specs.World.{World, IsSubclassIn}
use Rattle.classfile.specs.Methods.{Method, Receiver, no_receiver, ready_receiver, own_receiver, receiver_of}
use Rattle.insn.specs.Meanings.{Act}
use Rattle.machine.specs.Values.{Value, reference, in_slots, all_slots}
use Rattle.machine.specs.Heap.{made, this, object, Heap, IsHeap, FitsReference, AllFit}
use Rattle.machine.specs.Demands.{State}
use Rattle.machine.specs.Steps.{Choice, goes_on, Happens}

-- The receiver of a method: nothing; an object that fits its class; or its own object, of its class or one below it.
abbrev pub Receives : {A : Type 0} → World → Method A → Heap → ℕ → Receiver → List Value → Type 0
Receives world m heap own no_receiver vs = vs ≡ []
Receives world m heap own ready_receiver vs =
    (a : ℕ) × (vs ≡ reference a ∷ []) × FitsReference world heap (class_type m.class) (reference a)
Receives world m heap own own_receiver vs =
    (vs ≡ reference own ∷ []) × ((x : List ℕ) × (heap own ≡ Some (object (class_type x) this))
    × IsSubclassIn world x m.class)

-- A state in which the method may begin. No object is one that its run will have made, and none but the receiver is its
-- own.
pub record IsInitial {A : Type 0} (world : World) (m : Method A) (s : State) : Type 0 where
  pub at : s.at ≡ 0
  pub stack : s.stack ≡ []
  pub own : ℕ
  pub receiver : List Value
  pub arguments : List Value
  pub receives : Receives world m s.heap own (receiver_of m) receiver
  pub fit : AllFit world s.heap m.type.params arguments
  pub enough : length (in_slots (receiver ++ arguments)) ≤ m.max_locals
  pub locals : s.locals ≡ all_slots m.max_locals (receiver ++ arguments)
  pub objects : IsHeap s.heap
  pub none_made : (a : ℕ) (x : ReferenceType) → s.heap a ≡ Some (object x made) → ⊥
  pub only_own : (a : ℕ) (x : ReferenceType) → s.heap a ≡ Some (object x this) → (receiver_of m ≡ own_receiver)
      × (a ≡ own)

-- It begins with these values, the receiver first, and with these objects.
pub record IsBeginning {A : Type 0} (world : World) (m : Method A) (values : List Value) (heap : Heap)
    (s : State) : Type 0 where
  pub initial : IsInitial world m s
  pub with_values : values ≡ initial.receiver ++ initial.arguments
  pub with_objects : s.heap ≡ heap

-- the states of a run, the newest first
abbrev pub IsRun : World → Method Act → List State → Type 0
IsRun world m [] = ⊥
IsRun world m (s ∷ []) = IsInitial world m s
IsRun world m (t ∷ (s ∷ ss)) = ((c : Choice) × Happens world m s c (goes_on t)) × IsRun world m (s ∷ ss)
