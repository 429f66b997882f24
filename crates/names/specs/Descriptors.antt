-- Descriptors (JVMS 4.3.2, 4.3.3): the types that they name, as trees; the text of each tree by the cases
-- of the grammar; dimensions and widths as numbers of the tree.
use Rattle.std.specs.Prelude.{◌≡◌, ℕ, zero, suc, ◌+◌, ◌≤◌, Bool, if◌then◌else◌, List, [], ◌∷◌, ◌++◌, Option, Some, None, sum_by, All, ⊤}
use Rattle.std.specs.List.{flat_map, AllByRecursion}
use Rattle.names.specs.Names.{semicolon, bracket, IsClassName}
use Rattle.names.specs.declared.base.Primitive.{Primitive}
use Rattle.names.specs.declared.base.Primitive.TheVariants.{Byte, Char, Double, Float, Int, Long, Short, Boolean}
use Rattle.names.specs.declared.base.Base.{Base}
use Rattle.names.specs.declared.base.Base.TheVariants as bases

-- a primitive type, a class by the bytes of its name, or an array of components of a type
pub data FieldDescriptor : Type 0 where
  primitive : Primitive → FieldDescriptor
  class : List ℕ → FieldDescriptor
  array : FieldDescriptor → FieldDescriptor

-- the types of the parameters, and of the result if there is one
pub record MethodDescriptor : Type 0 where
  pub params : List FieldDescriptor
  pub result : Option FieldDescriptor

-- what a value of the program stands for
abbrev pub base_of : Base → FieldDescriptor
base_of (bases.Primitive p) = primitive p
base_of (bases.Class name) = class name.now

-- an array of so many dimensions, none being the type itself
abbrev pub dimensioned : ℕ → FieldDescriptor → FieldDescriptor
dimensioned zero t = t
dimensioned (suc d) t = array (dimensioned d t)

-- ---- texts

-- the letter of a primitive type (Table 4.3-A)
abbrev pub letter : Primitive → ℕ
letter Byte = 66
letter Char = 67
letter Double = 68
letter Float = 70
letter Int = 73
letter Long = 74
letter Short = 83
letter Boolean = 90

abbrev pub class_letter : ℕ
class_letter = 76

abbrev pub void_letter : ℕ
void_letter = 86

abbrev pub left_parenthesis : ℕ
left_parenthesis = 40

abbrev pub right_parenthesis : ℕ
right_parenthesis = 41

abbrev pub field_spelling : FieldDescriptor → List ℕ
field_spelling (primitive p) = letter p ∷ []
field_spelling (class name) = class_letter ∷ (name ++ semicolon ∷ [])
field_spelling (array component) = bracket ∷ field_spelling component

abbrev pub result_spelling : Option FieldDescriptor → List ℕ
result_spelling None = void_letter ∷ []
result_spelling (Some t) = field_spelling t

abbrev pub method_spelling : MethodDescriptor → List ℕ
method_spelling m = left_parenthesis
    ∷ (flat_map field_spelling m.params ++ right_parenthesis ∷ result_spelling m.result)

-- each class in the type goes by a class name
abbrev pub IsWellNamed : FieldDescriptor → Type 0
IsWellNamed (primitive p) = ⊤
IsWellNamed (class name) = IsClassName name
IsWellNamed (array component) = IsWellNamed component

abbrev pub IsResultWellNamed : Option FieldDescriptor → Type 0
IsResultWellNamed None = ⊤
IsResultWellNamed (Some t) = IsWellNamed t

-- the bytes are the descriptor of the type
pub record SpellsField (bytes : List ℕ) (t : FieldDescriptor) : Type 0 where
  pub named : IsWellNamed t
  pub spelled : bytes ≡ field_spelling t

pub record SpellsMethod (bytes : List ℕ) (m : MethodDescriptor) : Type 0 where
  pub params_named : AllByRecursion IsWellNamed m.params
  pub result_named : IsResultWellNamed m.result
  pub spelled : bytes ≡ method_spelling m

-- ---- limits (4.3.2, 4.3.3)

abbrev pub dimensions : FieldDescriptor → ℕ
dimensions (primitive p) = 0
dimensions (class name) = 0
dimensions (array component) = dimensions component + 1

-- a long or a double takes two units, everything else one
abbrev pub field_width : FieldDescriptor → ℕ
field_width (primitive Long) = 2
field_width (primitive Double) = 2
field_width t = 1

-- the units of the parameters, and one for a receiver
abbrev pub method_width : MethodDescriptor → Bool → ℕ
method_width m receiver = sum_by field_width m.params + (if receiver then 1 else 0)

abbrev pub result_types : Option FieldDescriptor → List FieldDescriptor
result_types None = []
result_types (Some t) = t ∷ []

-- all field types of a method's descriptor
abbrev pub field_types : MethodDescriptor → List FieldDescriptor
field_types m = m.params ++ result_types m.result

-- an array has at most 255 dimensions
abbrev pub IsWithinDimensions : FieldDescriptor → Type 0
IsWithinDimensions t = dimensions t ≤ 255

abbrev pub AreWithinDimensions : MethodDescriptor → Type 0
AreWithinDimensions m = All IsWithinDimensions (field_types m)
