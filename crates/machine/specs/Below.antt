-- Which run-time type is below which type, case by case (JVMS 2.4, 4.10.1.2). The law says that the machine's own word
-- means this and nothing more: so no array is below a class but Object, Cloneable and Serializable.
use Rattle.std.specs.Prelude.{◌≡◌, ◌↔◌, ℕ, false, true, List, [], ◌∷◌, Some}
use Rattle.names.specs.declared.base.Primitive.{Primitive}
use Rattle.names.specs.Descriptors.{FieldDescriptor, primitive, class, array}
use Rattle.names.specs.ReferenceTypes.{ReferenceType, class_type, array_type, descriptor_of}
use Rattle.names.specs.StandardNames.{object_name, cloneable_name, serializable_name}
use Rattle.hierarchy.specs.World.{Entry, World, IsSubclassIn}
use Rattle.insn.specs.Offsets.{IsAmong}
use Rattle.machine.specs.Heap.{IsBelow}
use Rattle.machine.specs.ByType.{IsOfReferences}

pub data IsA (world : World) : FieldDescriptor → FieldDescriptor → Type 0 where
  -- only as the component of an array
  same_primitive : {p : Primitive} → IsA world (primitive p) (primitive p)
  below_object : {x : FieldDescriptor} → IsOfReferences x → IsA world x (class object_name)
  below_interface : {x : FieldDescriptor} {name : List ℕ} (e : Entry) → IsOfReferences x → world name ≡ Some e
      → e.interface ≡ true → IsA world x (class name)
  below_superclass : {a b : List ℕ} → IsSubclassIn world a b → IsA world (class a) (class b)
  array_below_cloneable : {component : FieldDescriptor} → IsA world (array component) (class cloneable_name)
  array_below_serializable : {component : FieldDescriptor} → IsA world (array component) (class serializable_name)
  by_components : {x t : FieldDescriptor} → IsA world x t → IsA world (array x) (array t)

abbrev pub BelowIsByCases : Type 0
BelowIsByCases = (world : World) (x t : ReferenceType) → IsBelow world x t ↔ IsA world (descriptor_of x) (descriptor_of t)

-- where the world has a class of the name, and no interface
abbrev pub ArraysAreBelowThree : Type 0
ArraysAreBelowThree =
    (world : World) (component : FieldDescriptor) (name : List ℕ) (e : Entry) → world name ≡ Some e
    → e.interface ≡ false → IsBelow world (array_type component) (class_type name)
    → IsAmong name (object_name ∷ cloneable_name ∷ serializable_name ∷ [])
