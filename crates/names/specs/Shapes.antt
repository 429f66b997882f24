-- The shape of a method: what its descriptor says of its parameters and its result without their types (JVMS 4.3.3).
use Rattle.std.specs.Prelude.{◌≡◌, ℕ, ◌≤◌, ◌<◌, Bool, List, [], ◌∷◌, ◌++◌, length, sum_by, Option, Result, Ok, Err, MatchResult}
use Rattle.std.specs.List.{list_any}
use Rattle.std.specs.Option.{option_map, is_some}
use Rattle.names.specs.declared.fault.NameFault.{NameFault}
use Rattle.names.specs.declared.reading.FieldRead.{FieldRead}
use Rattle.names.specs.declared.shape.MethodShape.{MethodShape}
use Rattle.names.specs.declared.shape.Measured.{Measured}
use Rattle.names.specs.Descriptors.{FieldDescriptor, MethodDescriptor, field_width, method_width}
use Rattle.names.specs.Reading.{found, is_deep, read_params, read_method, method_type, limited_method, method_answer}
use Rattle.names.specs.ReadTypes.{type_read}

-- the shape of a method of these types, with a receiver or without one
pub record IsShapeOf (receiver : Bool) (type : MethodDescriptor) (s : MethodShape) : Type 0 where
  pub units : s.units ≡ method_width type receiver
  pub has_result : s.has_result ≡ is_some type.result

-- the text is a method's descriptor within the limits, and this is the shape of its types
pub record HasShape (receiver : Bool) (bytes : List ℕ) (s : MethodShape) : Type 0 where
  pub type : MethodDescriptor
  pub named : method_answer receiver bytes ≡ Ok type
  pub shape : IsShapeOf receiver type s

-- the shape of the types that are named, or the refusal of them
abbrev pub IsShapeAnswer : Bool → List ℕ → Result MethodShape NameFault → Type 0
IsShapeAnswer receiver bytes r = MatchResult r (HasShape receiver bytes) (λ e. method_answer receiver bytes ≡ Err e)

-- ---- words of the code's own steps

-- what is known of parameters of these types; units past 255 are not counted to their end
pub record Sums (m : Measured) (types : List FieldDescriptor) : Type 0 where
  pub deep : m.deep ≡ list_any is_deep types
  pub small : m.units ≤ 257
  pub exact : m.units ≤ 255 → m.units ≡ sum_by field_width types
  pub wide : 255 < m.units → 255 < sum_by field_width types

abbrev pub OneMore : Measured → FieldDescriptor → Measured → Type 0
OneMore old t new = (types : List FieldDescriptor) → Sums old types → Sums new (types ++ t ∷ [])

-- parameters stand at the front of the bytes, of which this is known
pub record SumsParams (bytes : List ℕ) (m : Measured) (rest : List ℕ) : Type 0 where
  pub types : List FieldDescriptor
  pub sums : Sums m types
  pub reads : read_params (length bytes) bytes ≡ found types rest

-- a method's descriptor stands there
pub record SumsMethod (bytes : List ℕ) (m : Measured) (result : Option FieldRead) (rest : List ℕ) : Type 0 where
  pub types : List FieldDescriptor
  pub sums : Sums m types
  pub reads : read_method bytes ≡ found (method_type types (option_map type_read result)) rest

-- what the limits leave of a method's types
abbrev pub IsShapeWithin : Bool → MethodDescriptor → Result MethodShape NameFault → Type 0
IsShapeWithin receiver m r =
    MatchResult r (λ s. (limited_method receiver (Ok m) ≡ Ok m) × IsShapeOf receiver m s)
    (λ e. limited_method receiver (Ok m) ≡ Err e)
