-- The meaning of the answers: when one type is assignable to another (JVMS 4.10.1.2), which class is missing otherwise,
-- and how the slots of two frames decide (JVMS 4.10.1.4).
use Rattle.std.specs.Prelude.{◌≡◌, ◌≢◌, ◌⊎◌, ◌↔◌, ◌++◌, ℕ, ◌<◌, List, [], ◌∷◌, Some, true, length, reverse, slice_get}
use Rattle.names.specs.declared.base.Primitive.{Primitive}
use Rattle.names.specs.Descriptors.{FieldDescriptor, primitive, class as class_type, array as array_type}
use Rattle.names.specs.StandardNames.{object_name, cloneable_name, serializable_name}
use Rattle.hierarchy.specs.Class.{ClassFact, interface_of, IsPresent, IsAbsent, IsSubclass}
use Rattle.hierarchy.specs.Answer.{Outcome, yes, no, missing}
use Rattle.frames.specs.VerificationType.{VerificationType, top, null, class, array}
use Rattle.frames.specs.FrameFact.{FrameFact}
use Rattle.frames.specs.Assignable.{class_answer, type_answer}
use Rattle.frames.specs.FrameAssignable.{item_answer, frame_answer}

-- class a to class b; b is looked up before a, and neither where they are equal or b is Object
abbrev pub ClassAnswer : List ClassFact → List ℕ → List ℕ → Outcome → Type 0
ClassAnswer classes a b yes = (a ≡ b) ⊎ (b ≡ object_name) ⊎ (interface_of classes b ≡ Some true)
    ⊎ (IsPresent classes b × IsSubclass classes a b)
ClassAnswer classes a b no = (a ≢ b) × (b ≢ object_name) × IsPresent classes b × (interface_of classes b ≢ Some true)
    × IsPresent classes a × (IsSubclass classes a b → ⊥)
ClassAnswer classes a b (missing name) =
    (a ≢ b) × (b ≢ object_name)
    × ((IsAbsent classes b × (name ≡ b))
    ⊎ (IsPresent classes b × (interface_of classes b ≢ Some true) × IsAbsent classes a × (name ≡ a)))

-- a comparison of two classes has one answer, which the word computes
abbrev pub ClassesHaveOneAnswer : Type 0
ClassesHaveOneAnswer = (classes : List ClassFact) (a b : List ℕ) (r : Outcome)
    → ClassAnswer classes a b r ↔ (r ≡ class_answer classes a b)

-- a class that every array is assignable to
abbrev pub IsAboveArrays : List ℕ → Type 0
IsAboveArrays b = (b ≡ object_name) ⊎ (b ≡ cloneable_name) ⊎ (b ≡ serializable_name)

-- an array of the first is assignable to an array of the second
pub data AreComponents (classes : List ClassFact) : FieldDescriptor → FieldDescriptor → Type 0 where
  primitive_component : {p : Primitive} → AreComponents classes (primitive p) (primitive p)
  class_component : {a b : List ℕ} → ClassAnswer classes a b yes → AreComponents classes (class_type a) (class_type b)
  array_under_class : {x : FieldDescriptor} {b : List ℕ} → IsAboveArrays b
      → AreComponents classes (array_type x) (class_type b)
  array_component : {x y : FieldDescriptor} → AreComponents classes x y
      → AreComponents classes (array_type x) (array_type y)

-- the first is assignable to the second
pub data IsAssignable (classes : List ClassFact) : VerificationType → VerificationType → Type 0 where
  to_itself : {a : VerificationType} → IsAssignable classes a a
  to_top : {a : VerificationType} → IsAssignable classes a top
  null_to_class : {b : List ℕ} → IsAssignable classes null (class b)
  null_to_array : {y : FieldDescriptor} → IsAssignable classes null (array y)
  class_to_class : {a b : List ℕ} → ClassAnswer classes a b yes → IsAssignable classes (class a) (class b)
  array_to_class : {x : FieldDescriptor} {b : List ℕ} → IsAboveArrays b → IsAssignable classes (array x) (class b)
  array_to_array : {x y : FieldDescriptor} → AreComponents classes x y → IsAssignable classes (array x) (array y)

-- arrays of these components compare the classes a and b
pub data ComponentsCompare : FieldDescriptor → FieldDescriptor → List ℕ → List ℕ → Type 0 where
  component_classes : {a b : List ℕ} → ComponentsCompare (class_type a) (class_type b) a b
  component_arrays : {x y : FieldDescriptor} {a b : List ℕ} → ComponentsCompare x y a b
      → ComponentsCompare (array_type x) (array_type y) a b

-- these types compare the classes a and b
pub data Compares : VerificationType → VerificationType → List ℕ → List ℕ → Type 0 where
  two_classes : {a b : List ℕ} → Compares (class a) (class b) a b
  two_arrays : {x y : FieldDescriptor} {a b : List ℕ} → ComponentsCompare x y a b → Compares (array x) (array y) a b

-- one type to another is yes exactly where it is assignable, and missing exactly where the classes that it compares
-- are; otherwise it is no
abbrev pub TypesMean : Type 0
TypesMean =
    (classes : List ClassFact) (x y : VerificationType)
    → ((type_answer classes x y ≡ yes) ↔ IsAssignable classes x y)
    × ((name : List ℕ) → (type_answer classes x y ≡ missing name)
    ↔ ((a : List ℕ) × (b : List ℕ) × Compares x y a b × ClassAnswer classes a b (missing name)))

-- as many locals and as many items, and no flag that the second lacks
abbrev pub IsAlike : FrameFact → FrameFact → Type 0
IsAlike f g = (length f.locals ≡ length g.locals) × (length f.stack ≡ length g.stack) × (f.flag ≡ true → g.flag ≡ true)

-- the answers for two lists, slot by slot
abbrev pub answers : (VerificationType → VerificationType → Outcome) → List VerificationType → List VerificationType
    → List Outcome
answers answer (x ∷ xs) (y ∷ ys) = answer x y ∷ answers answer xs ys
answers answer _ _ = []

-- the answers for the slots of two frames: the locals from 0 up, and then the stack from the bottom up
abbrev pub slot_answers : List ClassFact → FrameFact → FrameFact → List Outcome
slot_answers classes f g = answers (type_answer classes) f.locals g.locals
    ++ answers (item_answer classes) (reverse f.stack) (reverse g.stack)

-- one frame to another
abbrev pub FrameAnswer : List ClassFact → FrameFact → FrameFact → Outcome → Type 0
FrameAnswer classes f g yes = IsAlike f g
    × ((i : ℕ) (r : Outcome) → slice_get (slot_answers classes f g) i ≡ Some r → r ≡ yes)
FrameAnswer classes f g no = (IsAlike f g → ⊥) ⊎ ((i : ℕ) × (slice_get (slot_answers classes f g) i ≡ Some no))
FrameAnswer classes f g (missing name) =
    IsAlike f g
    × ((i : ℕ) → slice_get (slot_answers classes f g) i ≢ Some no)
    × ((i : ℕ) × (slice_get (slot_answers classes f g) i ≡ Some (missing name))
    × ((j : ℕ) → j < i → slice_get (slot_answers classes f g) j ≡ Some yes))

-- a comparison of two frames has one answer, which the word computes
abbrev pub FramesHaveOneAnswer : Type 0
FramesHaveOneAnswer = (classes : List ClassFact) (f g : FrameFact) (r : Outcome)
    → FrameAnswer classes f g r ↔ (r ≡ frame_answer classes f g)

-- each frame is assignable to itself
abbrev pub FramesToThemselves : Type 0
FramesToThemselves = (classes : List ClassFact) (f : FrameFact) → frame_answer classes f f ≡ yes
