-- The references that an instruction uses, by its act and the constant that it names (JVMS 2.9.1, 4.10.1.4, 6.5):
-- arguments, receivers aside from that of a constructor, the objects of fields, arrays, what is stored in a field or an
-- array, and what is cast, thrown or returned. Each is null, or its object's constructor has returned. References that
-- are copied, stored in local variables, compared, tested or locked are not used.
use Rattle.std.specs.Prelude.{◌≡◌, ℕ, true, List, [], ◌∷◌, ◌++◌, length, slice_get, Option, Some, None, ◌⊎◌}
use Rattle.names.specs.Descriptors.{FieldDescriptor, primitive, class, array}
use Rattle.names.specs.ReferenceTypes.{ReferenceType}
use Rattle.pool.specs.ConstantMeanings.{FieldConstant, field_at, MethodConstant, method_at, CallSite, call_site_at}
use Rattle.classfile.specs.Methods.{Method, is_own_field}
use Rattle.hierarchy.specs.World.{World}
use Rattle.insn.specs.Meanings as acts
use Rattle.insn.specs.Meanings.{Act}
use Rattle.insn.specs.Offsets.{IsAmong}
use Rattle.machine.specs.Values.{Value, null, reference}
use Rattle.machine.specs.Heap.{ready, this, object, Heap}
use Rattle.machine.specs.ByAct.{other_than_init}
use Rattle.machine.specs.Demands.{State, HasOperands, UsesReady}

-- ---- which operands, by their places from the top of the stack

-- this place, where the type is one of references
abbrev pub with_place : FieldDescriptor → ℕ → List ℕ → List ℕ
with_place (primitive p) place others = others
with_place (class name) place others = place ∷ others
with_place (array component) place others = place ∷ others

-- the last argument is on top, and each stands beneath those that follow it
abbrev pub argument_places : List FieldDescriptor → List ℕ
argument_places [] = []
argument_places (type ∷ types) = with_place type (length types) (argument_places types)

abbrev pub arguments_used : Option MethodConstant → List ℕ
arguments_used (Some c) = argument_places c.type.params
arguments_used None = []

abbrev pub site_arguments_used : Option CallSite → List ℕ
site_arguments_used (Some c) = argument_places c.type.params
site_arguments_used None = []

-- the receiver stands beneath the arguments
abbrev pub receiver_used : Option MethodConstant → List ℕ
receiver_used (Some c) = length c.type.params ∷ []
receiver_used None = []

abbrev pub value_used : Option FieldConstant → List ℕ
value_used (Some f) = with_place f.type 0 []
value_used None = []

abbrev pub used : Method Act → Act → List ℕ
used m (acts.GetField i) = 0 ∷ []
used m (acts.PutField i) = value_used (field_at m.constant_pool i)
used m (acts.PutStatic i) = value_used (field_at m.constant_pool i)
used m (acts.InvokeVirtual i) =
    receiver_used (method_at m.constant_pool i) ++ arguments_used (method_at m.constant_pool i)
used m (acts.InvokeInterface i count) =
    receiver_used (method_at m.constant_pool i) ++ arguments_used (method_at m.constant_pool i)
used m (acts.InvokeSpecial i) =
    receiver_used (other_than_init (method_at m.constant_pool i)) ++ arguments_used (method_at m.constant_pool i)
used m (acts.InvokeStatic i) = arguments_used (method_at m.constant_pool i)
used m (acts.InvokeDynamic i) = site_arguments_used (call_site_at m.constant_pool i)
used m (acts.LoadElement element) = 1 ∷ []
used m (acts.StoreElement element) = 2 ∷ []
used m acts.LoadReferenceElement = 1 ∷ []
used m acts.StoreReferenceElement = 0 ∷ 2 ∷ []
used m acts.ArrayLength = 0 ∷ []
used m (acts.CheckCast i) = 0 ∷ []
used m (acts.InstanceOf i) = 0 ∷ []
used m acts.Throw = 0 ∷ []
used m acts.ReturnReference = 0 ∷ []
used m _ = []

-- the field that is set, of the object beneath the value
abbrev pub field_set : Method Act → Act → Option FieldConstant
field_set m (acts.PutField i) = field_at m.constant_pool i
field_set m _ = None

-- ---- what may be used

-- an object whose constructor has returned
abbrev pub IsInitialized : Heap → ℕ → Type 0
IsInitialized heap a = (x : ReferenceType) × (heap a ≡ Some (object x ready))

-- Its fields may be set too: in an instance initialization method the own object's, where its class declares the field.
abbrev pub MayBeSet : Method Act → Heap → FieldConstant → ℕ → Type 0
MayBeSet m heap f a =
    IsInitialized heap a ⊎ ((m.is_init ≡ true) × (is_own_field m f ≡ true)
    × ((x : ReferenceType) × (heap a ≡ Some (object x this))))

-- null, or an address of which this holds
abbrev pub IsNullOr : (ℕ → Type 0) → Option Value → Type 0
IsNullOr P item = (item ≡ Some null) ⊎ ((a : ℕ) × (item ≡ Some (reference a)) × P a)

-- what an instruction uses is there, and is null or initialized
pub record UsesInitialized (m : Method Act) (s : State) (act : Act) : Type 0 where
  pub operands : (place : ℕ) → IsAmong place (used m act) → IsNullOr (IsInitialized s.heap) (slice_get s.stack place)
  pub set : (f : FieldConstant) → field_set m act ≡ Some f → IsNullOr (MayBeSet m s.heap f) (slice_get s.stack 1)

-- no object that an instruction uses is one that is not initialized, whatever is on the stack
pub record UsesNoOther (m : Method Act) (s : State) (act : Act) : Type 0 where
  pub operands : (place a : ℕ) → IsAmong place (used m act) → slice_get s.stack place ≡ Some (reference a)
      → IsInitialized s.heap a
  pub set : (f : FieldConstant) (a : ℕ) → field_set m act ≡ Some f → slice_get s.stack 1 ≡ Some (reference a)
      → MayBeSet m s.heap f a

-- ---- the laws

-- The part of the demands that speaks of operands says so alone.
abbrev pub OperandsAreInitialized : Type 0
OperandsAreInitialized = (world : World) (m : Method Act) (s : State) (act : Act) → HasOperands world m s act
    → UsesInitialized m s act

-- So does the part that speaks of objects, whatever is on the stack, where the instruction's operands can be there at
-- some state.
abbrev pub ObjectsAreInitialized : Type 0
ObjectsAreInitialized =
    (world : World) (m : Method Act) (some s : State) (act : Act) → HasOperands world m some act → UsesReady m s act
    → UsesNoOther m s act
