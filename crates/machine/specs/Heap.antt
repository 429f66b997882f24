-- Objects, and which values fit which types in a world (JVMS 2.4, 2.7, 4.10.1.2).
use Rattle.std.specs.Prelude.{◌≡◌, ℕ, ◌^◌, ◌<◌, ◌≤◌, true, nat_eq, if◌then◌else◌, List, [], ◌∷◌, Option, Some, None, ◌⊎◌}
use Rattle.names.specs.declared.base.Primitive.{Primitive}
use Rattle.names.specs.Descriptors.{FieldDescriptor, primitive, class, array}
use Rattle.names.specs.ReferenceTypes.{ReferenceType, class_type, array_type, descriptor_of, dimensions_of}
use Rattle.names.specs.StandardNames.{object_name, cloneable_name, serializable_name}
use Rattle.hierarchy.specs.World.{Entry, World, IsSubclassIn}
use Rattle.insn.specs.Operators.{takes_array}
use Rattle.insn.specs.Kinds.{computed_as}
use Rattle.machine.specs.Values.{Value, number, null, reference}

-- Which constructors have returned: one of the object; none, and it was made by this run's `new`; none, and it is the
-- own object.
pub data Status : Type 0 where
  ready made this : Status

pub record Object : Type 0 where
  pub type : ReferenceType
  pub status : Status

abbrev pub object : ReferenceType → Status → Object
object type status = record { type = type; status = status }

-- what is at an address
abbrev pub Heap : Type 0
Heap = ℕ → Option Object

abbrev pub with_object : Heap → ℕ → Object → Heap
with_object heap a o = λ b. if nat_eq a b then Some o else heap b

-- an address is a number of 32 bits
abbrev pub IsAddress : ℕ → Type 0
IsAddress a = a < 2 ^ 32

-- a run-time type has at most 255 dimensions (4.4.1)
abbrev pub IsRunTimeType : ReferenceType → Type 0
IsRunTimeType t = dimensions_of t ≤ 255

-- objects are at addresses, and have run-time types
abbrev pub IsHeap : Heap → Type 0
IsHeap heap = (a : ℕ) (o : Object) → heap a ≡ Some o → IsAddress a × IsRunTimeType o.type

-- ---- when a run-time type is below a type

abbrev pub IsInterface : World → List ℕ → Type 0
IsInterface world name = (e : Entry) × (world name ≡ Some e) × (e.interface ≡ true)

-- what leads to a class: a chain of superclasses; arrays are below two interfaces by name
abbrev pub IsBelowByName : World → FieldDescriptor → List ℕ → Type 0
IsBelowByName world (primitive p) name = ⊥
IsBelowByName world (class a) name = IsSubclassIn world a name
IsBelowByName world (array x) name = (name ≡ cloneable_name) ⊎ (name ≡ serializable_name)

abbrev pub IsNoPrimitive : FieldDescriptor → Type 0
IsNoPrimitive (primitive p) = ⊥
IsNoPrimitive (class name) = Unit {0}
IsNoPrimitive (array component) = Unit {0}

-- all classes and arrays are below Object and below every interface
abbrev pub IsBelowClass : World → FieldDescriptor → List ℕ → Type 0
IsBelowClass world x name = IsNoPrimitive x
    × ((name ≡ object_name) ⊎ (IsInterface world name ⊎ IsBelowByName world x name))

-- arrays by their components
abbrev pub IsBelowType : World → FieldDescriptor → FieldDescriptor → Type 0
IsBelowType world x (primitive p) = x ≡ primitive p
IsBelowType world x (class name) = IsBelowClass world x name
IsBelowType world (array x) (array y) = IsBelowType world x y
IsBelowType world _ (array y) = ⊥

abbrev pub IsBelow : World → ReferenceType → ReferenceType → Type 0
IsBelow world x t = IsBelowType world (descriptor_of x) (descriptor_of t)

-- ---- when a value fits

-- null, or an object that is ready, of a type below this one
abbrev pub FitsReference : World → Heap → ReferenceType → Value → Type 0
FitsReference world heap t (number kind) = ⊥
FitsReference world heap t null = Unit {0}
FitsReference world heap t (reference a) = (x : ReferenceType) × (heap a ≡ Some (object x ready)) × IsBelow world x t

-- what a field or parameter of a type may hold
abbrev pub FitsField : World → Heap → FieldDescriptor → Value → Type 0
FitsField world heap (primitive p) v = v ≡ number (computed_as p)
FitsField world heap (class name) v = FitsReference world heap (class_type name) v
FitsField world heap (array component) v = FitsReference world heap (array_type component) v

abbrev pub AllFit : World → Heap → List FieldDescriptor → List Value → Type 0
AllFit world heap [] [] = Unit {0}
AllFit world heap (t ∷ ts) (v ∷ vs) = FitsField world heap t v × AllFit world heap ts vs
AllFit world heap _ _ = ⊥

-- of any status
abbrev pub IsReference : Value → Type 0
IsReference (number kind) = ⊥
IsReference null = Unit {0}
IsReference (reference a) = Unit {0}

abbrev pub IsArray : ReferenceType → Type 0
IsArray (class_type name) = ⊥
IsArray (array_type component) = Unit {0}

abbrev pub FitsArray : Heap → Value → Type 0
FitsArray heap (number kind) = ⊥
FitsArray heap null = Unit {0}
FitsArray heap (reference a) = (x : ReferenceType) × (heap a ≡ Some (object x ready)) × IsArray x

-- an array that an element instruction for a primitive type takes
abbrev pub IsArrayFor : Primitive → ReferenceType → Type 0
IsArrayFor p (array_type (primitive q)) = takes_array p q ≡ true
IsArrayFor p _ = ⊥

abbrev pub FitsArrayFor : Heap → Primitive → Value → Type 0
FitsArrayFor heap p (number kind) = ⊥
FitsArrayFor heap p null = Unit {0}
FitsArrayFor heap p (reference a) = (x : ReferenceType) × (heap a ≡ Some (object x ready)) × IsArrayFor p x

-- ---- uses: an object whose constructor has not returned is not ready

abbrev pub IsReady : Heap → Value → Type 0
IsReady heap (number kind) = Unit {0}
IsReady heap null = Unit {0}
IsReady heap (reference a) = (x : ReferenceType) × (heap a ≡ Some (object x ready))

-- the own object, not initialized yet
abbrev pub IsThis : Heap → Value → Type 0
IsThis heap v = (a : ℕ) × (x : ReferenceType) × (v ≡ reference a) × (heap a ≡ Some (object x this))

-- no own object is left that is not initialized
abbrev pub HasNoThis : Heap → Type 0
HasNoThis heap = (a : ℕ) (x : ReferenceType) → heap a ≡ Some (object x this) → ⊥

-- ---- objects that come into being before a step, all of them ready

abbrev pub IsFresh : Heap → List (ℕ × ReferenceType) → Type 0
IsFresh heap [] = Unit {0}
IsFresh heap (x ∷ xs) = (heap x.0 ≡ None) × IsAddress x.0 × IsRunTimeType x.1
    × IsFresh (with_object heap x.0 (object x.1 ready)) xs

abbrev pub with_fresh : Heap → List (ℕ × ReferenceType) → Heap
with_fresh heap [] = heap
with_fresh heap (x ∷ xs) = with_fresh (with_object heap x.0 (object x.1 ready)) xs
