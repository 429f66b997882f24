-- When a type may stand where another is wanted (JVMS 4.10.1.2), as an answer that computes: yes, no, or the class that
-- would be needed and is absent.
use Rattle.std.specs.Prelude.{◌==◌, ◌||◌, ℕ, List, Option, Some, None, Bool, true, false, if◌then◌else◌}
use Rattle.std.specs.Str.{bytes_eq}
use Rattle.names.specs.declared.base.Primitive.{Primitive}
use Rattle.names.specs.declared.base.Primitive.TheVariants.{Byte, Char, Double, Float, Int, Long, Short, Boolean}
use Rattle.names.specs.Descriptors.{FieldDescriptor, primitive, class as class_type, array as array_type}
use Rattle.names.specs.StandardNames.{object_name, cloneable_name, serializable_name}
use Rattle.hierarchy.specs.Class.{ClassFact, interface_of}
use Rattle.hierarchy.specs.Answer.{Outcome, yes, no, missing, yes_if, subclass_answer}
use Rattle.frames.specs.VerificationType.{VerificationType, top, int, float, long, double, null, class, array, uninit_this, uninit}

-- class a to class b, which are neither equal nor b Object: b is looked up first
abbrev pub lookup_answer : List ClassFact → List ℕ → List ℕ → Option Bool → Outcome
lookup_answer classes a b None = missing b
lookup_answer classes a b (Some true) = yes
lookup_answer classes a b (Some false) = subclass_answer classes a b

-- class a to class b; Object is assignable from every class without a look-up, which the standard leaves to the loader
abbrev pub class_answer : List ClassFact → List ℕ → List ℕ → Outcome
class_answer classes a b =
    if bytes_eq a b || bytes_eq b object_name then yes
    else lookup_answer classes a b (interface_of classes b)

-- the classes that every array is assignable to
abbrev pub is_above_arrays : List ℕ → Bool
is_above_arrays b = bytes_eq b object_name || (bytes_eq b cloneable_name || bytes_eq b serializable_name)

abbrev pub same_primitive : Primitive → Primitive → Bool
same_primitive Byte Byte = true
same_primitive Char Char = true
same_primitive Double Double = true
same_primitive Float Float = true
same_primitive Int Int = true
same_primitive Long Long = true
same_primitive Short Short = true
same_primitive Boolean Boolean = true
same_primitive _ _ = false

-- an array of the first to an array of the second
abbrev pub component_answer : List ClassFact → FieldDescriptor → FieldDescriptor → Outcome
component_answer classes (primitive p) (primitive q) = yes_if (same_primitive p q)
component_answer classes (class_type a) (class_type b) = class_answer classes a b
component_answer classes (array_type x) (class_type b) = yes_if (is_above_arrays b)
component_answer classes (array_type x) (array_type y) = component_answer classes x y
component_answer classes _ _ = no

-- one type to another
abbrev pub type_answer : List ClassFact → VerificationType → VerificationType → Outcome
type_answer classes _ top = yes
type_answer classes int int = yes
type_answer classes float float = yes
type_answer classes long long = yes
type_answer classes double double = yes
type_answer classes null null = yes
type_answer classes null (class _) = yes
type_answer classes null (array _) = yes
type_answer classes (class a) (class b) = class_answer classes a b
type_answer classes (array x) (class b) = yes_if (is_above_arrays b)
type_answer classes (array x) (array y) = component_answer classes x y
type_answer classes uninit_this uninit_this = yes
type_answer classes (uninit p) (uninit q) = yes_if (p == q)
type_answer classes _ _ = no
