-- In the machine a type takes all that the verifier lets it take (JVMS 2.4, 4.10.1.2). The verifier's assignability is
-- written apart, by cases of its own: a machine in which fewer values fit then breaks this law, and does not make the
-- theorem one about less.
use Rattle.std.specs.Prelude.{◌≡◌, ℕ, List, Some}
use Rattle.names.specs.declared.base.Primitive.{Primitive}
use Rattle.names.specs.Descriptors.{primitive}
use Rattle.names.specs.ReferenceTypes.{ReferenceType, descriptor_of}
use Rattle.hierarchy.specs.World.{World}
use Rattle.hierarchy.specs.Class.{ClassFact}
use Rattle.hierarchy.specs.Rules.{IsHierarchy}
use Rattle.hierarchy.specs.Extends.{Extends}
use Rattle.insn.specs.Kinds.{computed_as}
use Rattle.frames.specs.Slots.{to_reference}
use Rattle.frames.specs.Meaning.{IsAssignable}
use Rattle.machine.specs.Values.{Value, number, null, reference}
use Rattle.machine.specs.Heap.{ready, object, Heap, IsBelow, FitsReference, FitsField}

-- a reference type is assignable to another
abbrev pub IsAssignableTo : List ClassFact → ReferenceType → ReferenceType → Type 0
IsAssignableTo classes type above = IsAssignable classes (to_reference type) (to_reference above)

pub record HasFits (classes : List ClassFact) (world : World) (heap : Heap) : Type 0 where
  pub numbers : (p : Primitive) → FitsField world heap (primitive p) (number (computed_as p))
  pub nulls : (type : ReferenceType) → FitsReference world heap type null
  -- an object that is ready, of a type that is assignable to this one
  pub objects : (a : ℕ) (type above : ReferenceType) → heap a ≡ Some (object type ready)
      → IsAssignableTo classes type above
      → FitsReference world heap above (reference a)
  -- a value that fits a type fits each type to which that is assignable
  pub values : (v : Value) (type above : ReferenceType) → FitsReference world heap type v
      → IsAssignableTo classes type above
      → FitsReference world heap above v
  -- fields, parameters and results take what fits their types
  pub fields : (v : Value) (type : ReferenceType) → FitsReference world heap type v
      → FitsField world heap (descriptor_of type) v
  -- an exception of such a type is caught
  pub types : (type above : ReferenceType) → IsAssignableTo classes type above → IsBelow world type above

abbrev pub FitsBreadth : Type 0
FitsBreadth =
    (classes : List ClassFact) → IsHierarchy classes → (world : World) → Extends world classes → (heap : Heap)
    → HasFits classes world heap
