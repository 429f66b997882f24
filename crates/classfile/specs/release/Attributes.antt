-- Attributes of which a table may have one (JVMS 4.7.6 to 4.7.29), beside those that are judged in every class, and
-- constant values that fit their fields (4.7.2).
use Rattle.std.specs.Prelude.{ℕ, Bool, true, false, not, ◌&&◌, ◌||◌, List, [], ◌∷◌, codes, nat_le, nat_lt, count_by}
use Rattle.std.specs.List.{list_any}
use Rattle.std.specs.Option.{option_map_or}
use Rattle.std.specs.Str.{bytes_eq}
use Rattle.names.specs.StandardNames.{string_name}
use Rattle.pool.specs.Entries.{Entry, Integer, Float, Long, Double, String}
use Rattle.pool.specs.Lookups.{entry_at}
use Rattle.classfile.specs.declared.location.Location.{Location}
use Rattle.classfile.specs.declared.location.Location.TheVariants.{Class, Field, Method, Code, RecordComponent}
use Rattle.classfile.specs.AttributeForm.{on_body}
use Rattle.classfile.specs.Indices.{on_found, on_text}
use Rattle.classfile.specs.Locations.{is_named}
use Rattle.classfile.specs.NumberForm.{on_numbers}
use Rattle.classfile.specs.Numbers.{Numbers, number_at}
use Rattle.classfile.specs.Values.{AttributeOf, name_of, CodeBody, Component, Attribute, ClassAttribute, Member}

-- ---- attributes that may stand once

-- an attribute of this name may stand once, from a major version on
pub record Single : Type 0 where
  pub first_major : ℕ
  pub name : List ℕ

abbrev single : ℕ → List ℕ → Single
single major name = record { first_major = major; name = name }

-- annotations of declarations (4.7.16, 4.7.17) and of types (4.7.20, 4.7.21)
abbrev pub type_annotations : List Single
type_annotations =
    single 52 (codes "RuntimeVisibleTypeAnnotations") ∷ single 52 (codes "RuntimeInvisibleTypeAnnotations") ∷ []

abbrev pub annotations : List Single
annotations =
    single 49 (codes "RuntimeVisibleAnnotations") ∷ single 49 (codes "RuntimeInvisibleAnnotations") ∷ type_annotations

-- attributes of classes (4.7.7, 4.7.11, 4.7.23) and of methods (4.7.18, 4.7.19, 4.7.22, 4.7.24) beside them
abbrev pub singles_in : Location → List Single
singles_in (Class major) =
    single 49 (codes "EnclosingMethod")
    ∷ single 49 (codes "SourceDebugExtension")
    ∷ single 51 (codes "BootstrapMethods")
    ∷ annotations
singles_in Field = annotations
singles_in Method =
    single 49 (codes "RuntimeVisibleParameterAnnotations")
    ∷ single 49 (codes "RuntimeInvisibleParameterAnnotations")
    ∷ single 49 (codes "AnnotationDefault")
    ∷ single 52 (codes "MethodParameters")
    ∷ annotations
singles_in Code = type_annotations
singles_in RecordComponent = annotations

abbrev pub has_name : {A : Type 0} → List Entry → List ℕ → AttributeOf A → Bool
has_name pool name attribute = is_named pool (name_of attribute) name

unfoldable pub single_stands_twice : {A : Type 0} → ℕ → List Entry → List (AttributeOf A) → Single → Bool
single_stands_twice major pool attributes s =
    nat_le s.first_major major && nat_lt 1 (count_by (has_name pool s.name) attributes)

-- in the table of a class of this major version one stands twice
unfoldable pub singles_stand_twice : {A : Type 0} → ℕ → List Entry → Location → List (AttributeOf A) → Bool
singles_stand_twice major pool place attributes = list_any (single_stands_twice major pool attributes) (singles_in place)

-- in the table of a Code attribute among these
abbrev pub code_has_twice : ℕ → List Entry → CodeBody → Bool
code_has_twice major pool code = singles_stand_twice major pool Code code.attributes

unfoldable pub codes_have_twice : ℕ → List Entry → List Attribute → Bool
codes_have_twice major pool attributes = list_any (on_body (code_has_twice major pool)) attributes

-- in that of a component of a record among these
abbrev pub component_has_twice : ℕ → List Entry → Component → Bool
component_has_twice major pool c = singles_stand_twice major pool RecordComponent c.attributes

unfoldable pub components_have_twice : ℕ → List Entry → List Component → Bool
components_have_twice major pool components = list_any (component_has_twice major pool) components

unfoldable pub records_have_twice : ℕ → List Entry → List ClassAttribute → Bool
records_have_twice major pool attributes = list_any (on_body (components_have_twice major pool)) attributes

-- the body of one of them is numbers, as those of this name are
abbrev pub is_numbers_of : List ℕ → Numbers → Bool
is_numbers_of name n = bytes_eq n.layout.name name

unfoldable pub have_numbers_of : {A : Type 0} → List ℕ → List (AttributeOf A) → Bool
have_numbers_of name attributes = list_any (on_numbers (is_numbers_of name)) attributes

-- a class is the host of a nest or one of its members (4.7.28, 4.7.29)
abbrev pub are_of_two_nests : List ClassAttribute → Bool
are_of_two_nests attributes =
    have_numbers_of (codes "NestHost") attributes && have_numbers_of (codes "NestMembers") attributes

-- ---- constant values (4.7.2, table 4.7.2-A)

abbrev pub is_any : List (List ℕ) → List ℕ → Bool
is_any texts text = list_any (bytes_eq text) texts

-- a field of this descriptor takes the value
abbrev pub takes_value : List ℕ → Entry → Bool
takes_value descriptor (Integer bits) =
    is_any (codes "I" ∷ codes "Z" ∷ codes "B" ∷ codes "C" ∷ codes "S" ∷ []) descriptor
takes_value descriptor (Long high low) = bytes_eq descriptor (codes "J")
takes_value descriptor (Float bits) = bytes_eq descriptor (codes "F")
takes_value descriptor (Double high low) = bytes_eq descriptor (codes "D")
takes_value descriptor (String text) = bytes_eq descriptor (codes "Ljava/lang/String;")
takes_value descriptor _ = true

abbrev pub is_other_value : List Entry → List ℕ → ℕ → Bool
is_other_value pool descriptor index = on_found (λ e. not (takes_value descriptor e)) (entry_at pool index)

abbrev pub has_other_value : List Entry → List ℕ → Numbers → Bool
has_other_value pool descriptor n =
    is_numbers_of (codes "ConstantValue") n
    && option_map_or (is_other_value pool descriptor) (number_at n 0 0) false

-- a ConstantValue among these has a value of another type than this descriptor's
unfoldable pub have_other_value : List Entry → List Attribute → List ℕ → Bool
have_other_value pool attributes descriptor = list_any (on_numbers (has_other_value pool descriptor)) attributes
