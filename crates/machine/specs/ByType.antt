-- The values of a type (JVMS 2.3, 2.4, 2.11.1), value by value. The laws of breadth speak in these words, and not in
-- those by which the machine tells what fits.
use Rattle.std.specs.Prelude.{◌≡◌, ℕ, ◌+◌, List, [], ◌∷◌, Some}
use Rattle.names.specs.declared.base.Primitive.{Primitive}
use Rattle.names.specs.declared.base.Primitive.TheVariants.{Boolean, Byte, Char, Short, Int, Long, Float, Double}
use Rattle.names.specs.Descriptors.{FieldDescriptor, primitive, class, array}
use Rattle.names.specs.ReferenceTypes.{ReferenceType, descriptor_of}
use Rattle.hierarchy.specs.World.{World}
use Rattle.insn.specs.declared.kinds.Kind.{Kind}
use Rattle.insn.specs.declared.kinds.Kind.TheVariants as kinds
use Rattle.machine.specs.Values.{Value, number, null, reference}
use Rattle.machine.specs.Heap.{ready, object, Heap, IsBelowType}

-- the kind of the numbers of a primitive type: boolean, byte, char and short are ints
abbrev pub kind_of : Primitive → Kind
kind_of Boolean = kinds.Int
kind_of Byte = kinds.Int
kind_of Char = kinds.Int
kind_of Short = kinds.Int
kind_of Int = kinds.Int
kind_of Long = kinds.Long
kind_of Float = kinds.Float
kind_of Double = kinds.Double

-- a type of references: a class or an array
abbrev pub IsOfReferences : FieldDescriptor → Type 0
IsOfReferences (primitive p) = ⊥
IsOfReferences (class name) = Unit {0}
IsOfReferences (array component) = Unit {0}

-- an object is at the address, its constructor has returned, and its run-time type is below this one
pub record IsReadyOf (world : World) (heap : Heap) (type : FieldDescriptor) (a : ℕ) : Type 0 where
  pub run_time : ReferenceType
  pub here : heap a ≡ Some (object run_time ready)
  pub below : IsBelowType world (descriptor_of run_time) type

-- a number of a primitive type of its kind; null of each type of references; an address of an object that is ready and
-- of a type below
abbrev pub IsOf : World → Heap → FieldDescriptor → Value → Type 0
IsOf world heap type (number kind) = (p : Primitive) × (type ≡ primitive p) × (kind ≡ kind_of p)
IsOf world heap type null = IsOfReferences type
IsOf world heap type (reference a) = IsOfReferences type × IsReadyOf world heap type a

-- ---- units (2.6.1, 2.6.2)

-- a long or double takes two local variables and two units of the stack
abbrev pub units_of_kind : Kind → ℕ
units_of_kind kinds.Int = 1
units_of_kind kinds.Float = 1
units_of_kind kinds.Long = 2
units_of_kind kinds.Double = 2

abbrev pub units_of : Value → ℕ
units_of (number kind) = units_of_kind kind
units_of null = 1
units_of (reference address) = 1

abbrev pub units_of_all : List Value → ℕ
units_of_all [] = 0
units_of_all (v ∷ vs) = units_of v + units_of_all vs
