-- Words of the code's own steps: nothing that a reader must believe rests on them.
-- The parts of a method that say in which states it may begin, and the conditions on values and objects there.
use Rattle.std.specs.Prelude.{◌≡◌, ℕ, ◌+◌, ◌≤◌, Bool, true, false, List, [], ◌∷◌, ◌++◌, length, map, replicate, Option, Some, None}
use Rattle.names.specs.Descriptors.{FieldDescriptor}
use Rattle.names.specs.ReferenceTypes.{ReferenceType, class_type}
use Rattle.names.specs.Types.{type_of}
use Rattle.hierarchy.specs.World.{World, IsSubclassIn}
use Rattle.classfile.specs.Methods.{Method, Receiver, no_receiver, ready_receiver, own_receiver, receiver_of}
use Rattle.classfile.specs.CodeMethods.{code_method_view}
use Rattle.classfile.specs.declared.code_method.CodeMethod.{CodeMethod}
use Rattle.machine.specs.Values.{Value, reference, Slot, empty, in_slots}
use Rattle.machine.specs.Heap.{Status, ready, made, this, Object, object, Heap, IsAddress, IsRunTimeType, IsHeap, FitsReference, AllFit}
use Rattle.machine.specs.declared.beginnings.Receiver.{Receiver as RawReceiver}
use Rattle.machine.specs.declared.beginnings.Receiver.TheVariants as receivers
use Rattle.machine.specs.declared.beginnings.Beginning.{Beginning as RawBeginning}

-- the parts of a method that say how it begins
pub record Beginning : Type 0 where
  pub class : List ℕ
  pub receiver : Receiver
  pub params : List FieldDescriptor
  pub max_locals : ℕ

abbrev pub beginning_of : {A : Type 0} → Method A → Beginning
beginning_of m = record { class = m.class; receiver = receiver_of m; params = m.type.params; max_locals = m.max_locals }

-- whatever its code says
abbrev pub begins : CodeMethod → Beginning
begins m = beginning_of (code_method_view {A = ℕ} m [])

abbrev pub receiver_view : RawReceiver → Receiver
receiver_view receivers.Nothing = no_receiver
receiver_view receivers.Ready = ready_receiver
receiver_view receivers.Own = own_receiver

abbrev pub beginning_view : RawBeginning → Beginning
beginning_view b = record {
  class = b.class.now;
  receiver = receiver_view b.receiver;
  params = map type_of b.types.params.items;
  max_locals = b.max_locals;
}

-- the own object of the class of this name, or of one below it
abbrev pub IsOwnObject : World → List ℕ → Heap → ℕ → Type 0
IsOwnObject world class heap own = (x : List ℕ) × (heap own ≡ Some (object (class_type x) this))
    × IsSubclassIn world x class

-- a receiver that is initialized: an object of the class or of one below it, and not null
abbrev pub IsReceiver : World → List ℕ → Heap → Value → Type 0
IsReceiver world class heap v = (a : ℕ) × (v ≡ reference a) × FitsReference world heap (class_type class) (reference a)

-- a receiver that is the own object
abbrev pub IsOwn : World → List ℕ → Heap → Value → Type 0
IsOwn world class heap v = (a : ℕ) × (v ≡ reference a) × IsOwnObject world class heap a

-- the address of the own object, where the receiver is one
abbrev pub own_at : Receiver → ℕ → Option ℕ
own_at no_receiver own = None
own_at ready_receiver own = None
own_at own_receiver own = Some own

-- the receiver that is handed over
abbrev pub ReceivesAs : World → List ℕ → Heap → ℕ → Receiver → List Value → Type 0
ReceivesAs world class heap own no_receiver vs = vs ≡ []
ReceivesAs world class heap own ready_receiver vs = (a : ℕ) × (vs ≡ reference a ∷ [])
    × FitsReference world heap (class_type class) (reference a)
ReceivesAs world class heap own own_receiver vs = (vs ≡ reference own ∷ []) × IsOwnObject world class heap own

-- an object of this status, when a method begins whose own object is at this address, if it has one
abbrev pub HasStatus : Option ℕ → ℕ → Status → Type 0
HasStatus own address ready = Unit {0}
HasStatus own address made = ⊥
HasStatus own address this = own ≡ Some address

abbrev pub MayBe : Option ℕ → ℕ → Object → Type 0
MayBe own address o = IsAddress address × IsRunTimeType o.type × HasStatus own address o.status

-- no object is one that a run will have made, and none is an own one but this, if it is
pub record AreObjects (own : Option ℕ) (heap : Heap) : Type 0 where
  pub objects : IsHeap heap
  pub none_made : (a : ℕ) (x : ReferenceType) → heap a ≡ Some (object x made) → ⊥
  pub only_own : (a : ℕ) (x : ReferenceType) → heap a ≡ Some (object x this) → own ≡ Some a

-- arguments after the receiver, all of these values together, and the objects
pub record BehindReceiver (world : World) (b : Beginning) (own : Option ℕ) (values arguments : List Value)
    (heap : Heap) : Type 0 where
  pub fit : AllFit world heap b.params arguments
  pub enough : length (in_slots values) ≤ b.max_locals
  pub are : AreObjects own heap

pub record MayBegin (world : World) (b : Beginning) (values : List Value) (heap : Heap) : Type 0 where
  pub own : ℕ
  pub receiver : List Value
  pub arguments : List Value
  pub all : values ≡ receiver ++ arguments
  pub receives : ReceivesAs world b.class heap own b.receiver receiver
  pub behind : BehindReceiver world b (own_at b.receiver own) values arguments heap

-- ---- values read back from local variables

abbrev pub receivers_of : Receiver → ℕ
receivers_of no_receiver = 0
receivers_of ready_receiver = 1
receivers_of own_receiver = 1

-- how many values it begins with
abbrev pub values_of : Beginning → ℕ
values_of b = length b.params + receivers_of b.receiver

-- so many values stand in these local variables, from the first one on, and all after them are empty
pub record StandIn (count : ℕ) (slots : List Slot) (values : List Value) : Type 0 where
  pub many : length values ≡ count
  pub others : ℕ
  pub are : slots ≡ in_slots values ++ replicate others empty

-- they are put after the old ones; or no values stand so
abbrev pub TakesValues : ℕ → List Slot → List Value → List Value → Bool → Type 0
TakesValues count slots old new true = (values : List Value) × (new ≡ old ++ values) × StandIn count slots values
TakesValues count slots old new false = (values : List Value) → StandIn count slots values → ⊥
