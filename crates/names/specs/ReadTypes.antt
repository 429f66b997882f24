-- The meaning of a type of which only the front is judged yet.
use Rattle.std.specs.Prelude.{◌≡◌, ℕ, ◌-◌, ◌<◌, ◌≤◌, Bool, true, false, List, length, map, Option, Result, Ok, Err, MatchResult}
use Rattle.std.specs.List.{list_any}
use Rattle.std.specs.Option.{option_map}
use Rattle.names.specs.declared.fault.NameFault.{NameFault}
use Rattle.names.specs.declared.fault.NameFault.TheVariants.{BadDescriptor, TooWide}
use Rattle.names.specs.declared.descriptor.FieldType.{FieldType}
use Rattle.names.specs.declared.descriptor.MethodType.{MethodType}
use Rattle.names.specs.declared.reading.FieldRead.{FieldRead}
use Rattle.names.specs.declared.reading.Params.{Params}
use Rattle.names.specs.Descriptors.{FieldDescriptor, MethodDescriptor, base_of, dimensioned, method_width}
use Rattle.names.specs.Types.{type_of, method_of}
use Rattle.names.specs.Reading.{found, outside, is_deep, read_params, read_method, method_type, limited_method}

abbrev pub type_read : FieldRead → FieldDescriptor
type_read f = dimensioned f.dims (base_of f.base)

-- what is kept of parameters of these types; where one has too many dimensions, nothing else matters
pub record Keeps (kept : List FieldType) (deep wide : Bool) (types : List FieldDescriptor) : Type 0 where
  pub is_deep_known : deep ≡ list_any is_deep types
  pub few : length kept ≤ 255
  pub all : deep ≡ false → wide ≡ false → map type_of kept ≡ types
  pub many : deep ≡ false → wide ≡ true → 255 < length types

abbrev pub KeepsTypes : Params → List FieldDescriptor → Type 0
KeepsTypes params types = Keeps params.types.items params.deep params.wide types

-- parameters stand at the front of the bytes, and these are kept of them
pub record ReadsParams (bytes : List ℕ) (params : Params) (rest : List ℕ) : Type 0 where
  pub types : List FieldDescriptor
  pub keeps : KeepsTypes params types
  pub reads : read_params (length bytes) bytes ≡ found types rest

-- no parameters stand there, and the place is told of a text of so many bytes
pub record FailsParams (bytes : List ℕ) (total : ℕ) (e : NameFault) : Type 0 where
  pub stop : List ℕ
  pub reads : read_params (length bytes) bytes ≡ outside stop
  pub is : e ≡ BadDescriptor (total - length stop)

-- a method's descriptor stands at the front of the bytes
pub record ReadsMethod (bytes : List ℕ) (params : Params) (result : Option FieldRead) (rest : List ℕ) : Type 0 where
  pub types : List FieldDescriptor
  pub keeps : KeepsTypes params types
  pub reads : read_method bytes ≡ found (method_type types (option_map type_read result)) rest

-- no method's descriptor stands there
pub record FailsMethod (bytes : List ℕ) (e : NameFault) : Type 0 where
  pub stop : List ℕ
  pub reads : read_method bytes ≡ outside stop
  pub is : e ≡ BadDescriptor (length bytes - length stop)

-- parameters stand at the front of the bytes, of which none is kept
pub record PassesParams (bytes rest : List ℕ) : Type 0 where
  pub types : List FieldDescriptor
  pub reads : read_params (length bytes) bytes ≡ found types rest

-- a method's descriptor stands there, of which the result is kept
pub record PassesMethod (bytes : List ℕ) (result : Option FieldRead) (rest : List ℕ) : Type 0 where
  pub types : List FieldDescriptor
  pub reads : read_method bytes ≡ found (method_type types (option_map type_read result)) rest

-- what the limits leave of a method's types
abbrev pub IsLimited : Bool → MethodDescriptor → Result MethodType NameFault → Type 0
IsLimited receiver m r = MatchResult r (λ v. limited_method receiver (Ok m) ≡ Ok (method_of v))
    (λ e. limited_method receiver (Ok m) ≡ Err e)

-- the same of types that are within their dimensions
abbrev pub IsFitting : Bool → MethodDescriptor → Result MethodType NameFault → Type 0
IsFitting receiver m r = MatchResult r (λ v. (method_of v ≡ m) × (method_width m receiver ≤ 255))
    (λ e. (e ≡ TooWide) × (255 < method_width m receiver))
