-- How names and descriptors are read byte by byte: words that compute, for programs and for definitions
-- that have to decide. The laws of this crate tie them to the names and the spellings.
use Rattle.std.specs.Prelude.{ℕ, zero, suc, ◌-◌, Bool, true, not, ◌&&◌, ◌||◌, if◌then◌else◌, nat_eq, nat_lt, List, [], ◌∷◌, length, Option, Some, None, Result, Ok, Err}
use Rattle.std.specs.List.{list_any}
use Rattle.names.specs.Names.{slash, semicolon, bracket, is_name_unit}
use Rattle.names.specs.Descriptors.{FieldDescriptor, primitive, class, array, MethodDescriptor, letter, class_letter, void_letter, left_parenthesis, right_parenthesis, dimensions, field_types, method_width}
use Rattle.names.specs.declared.base.Primitive.{Primitive}
use Rattle.names.specs.declared.base.Primitive.TheVariants.{Byte, Char, Double, Float, Int, Long, Short, Boolean}
use Rattle.names.specs.declared.fault.NameFault.{NameFault}
use Rattle.names.specs.declared.fault.NameFault.TheVariants.{BadDescriptor, TooManyDimensions, TooWide}

-- what stands at the front of a byte list
pub data Reading (A : Type 0) : Type 0 where
  -- a value, and the bytes after it
  found : A → List ℕ → Reading A
  -- no value: the bytes from the first on that fits no value
  outside : List ℕ → Reading A

abbrev pub mapped : {A B : Type 0} → (A → B) → Reading A → Reading B
mapped f (found a rest) = found (f a) rest
mapped f (outside rest) = outside rest

abbrev pub followed : {A B : Type 0} → Reading A → (A → List ℕ → Reading B) → Reading B
followed (found a rest) next = next a rest
followed (outside rest) next = outside rest

-- ---- class names

-- a class name goes on with the unit; `fresh` where an unqualified name has to begin
abbrev pub goes_on : Bool → ℕ → Bool
goes_on fresh u = is_name_unit u || (not fresh && nat_eq u slash)

-- the units bring a class name to its end
unfoldable pub ends_class_name : Bool → List ℕ → Bool
ends_class_name fresh [] = not fresh
ends_class_name fresh (u ∷ units) = goes_on fresh u && ends_class_name (nat_eq u slash) units

-- the class name up to a ';'
unfoldable pub read_class : Bool → List ℕ → Reading (List ℕ)
read_class fresh [] = outside []
read_class fresh (b ∷ bytes) =
    if goes_on fresh b then mapped (λ name. b ∷ name) (read_class (nat_eq b slash) bytes)
    else if not fresh && nat_eq b semicolon then found [] bytes
    else outside (b ∷ bytes)

-- ---- field types

-- the first of the types that has the letter
abbrev pub lettered : List Primitive → ℕ → Option Primitive
lettered [] b = None
lettered (p ∷ types) b = if nat_eq b (letter p) then Some p else lettered types b

abbrev pub primitives : List Primitive
primitives = Byte ∷ Char ∷ Double ∷ Float ∷ Int ∷ Long ∷ Short ∷ Boolean ∷ []

abbrev pub primitive_of : ℕ → Option Primitive
primitive_of b = lettered primitives b

abbrev pub primitive_before : Option Primitive → ℕ → List ℕ → Reading FieldDescriptor
primitive_before None b bytes = outside (b ∷ bytes)
primitive_before (Some p) b bytes = found (primitive p) bytes

-- a type that is not an array
unfoldable pub read_base : List ℕ → Reading FieldDescriptor
read_base [] = outside []
read_base (b ∷ bytes) = if nat_eq b class_letter then mapped class (read_class true bytes)
    else primitive_before (primitive_of b) b bytes

unfoldable pub read_field : List ℕ → Reading FieldDescriptor
read_field [] = outside []
read_field (b ∷ bytes) = if nat_eq b bracket then mapped array (read_field bytes) else read_base (b ∷ bytes)

-- ---- descriptors of methods

-- field types up to a ')', so many at most
unfoldable pub read_params : ℕ → List ℕ → Reading (List FieldDescriptor)
read_params zero bytes = outside bytes
read_params (suc n) [] = outside []
read_params (suc n) (b ∷ bytes) =
    if nat_eq b right_parenthesis then found [] bytes
    else followed (read_field (b ∷ bytes)) (λ t rest. mapped (λ types. t ∷ types) (read_params n rest))

unfoldable pub read_result : List ℕ → Reading (Option FieldDescriptor)
read_result [] = outside []
read_result (b ∷ bytes) = if nat_eq b void_letter then found None bytes else mapped Some (read_field (b ∷ bytes))

abbrev pub method_type : List FieldDescriptor → Option FieldDescriptor → MethodDescriptor
method_type params result = record { params = params; result = result }

unfoldable pub read_method : List ℕ → Reading MethodDescriptor
read_method [] = outside []
read_method (b ∷ bytes) =
    if nat_eq b left_parenthesis
    then followed (read_params (length bytes) bytes) (λ params rest. mapped (method_type params) (read_result rest))
    else outside (b ∷ bytes)

-- ---- whole texts

-- a value that all bytes make up, or the place of the first byte too many or that fits nothing
abbrev pub whole : {A : Type 0} → List ℕ → Reading A → Result A NameFault
whole bytes (found a []) = Ok a
whole bytes (found a (b ∷ rest)) = Err (BadDescriptor (length bytes - length (b ∷ rest)))
whole bytes (outside rest) = Err (BadDescriptor (length bytes - length rest))

abbrev pub is_deep : FieldDescriptor → Bool
is_deep t = nat_lt 255 (dimensions t)

abbrev pub limited_field : Result FieldDescriptor NameFault → Result FieldDescriptor NameFault
limited_field (Err e) = Err e
limited_field (Ok t) = if is_deep t then Err TooManyDimensions else Ok t

abbrev pub limited_method : Bool → Result MethodDescriptor NameFault → Result MethodDescriptor NameFault
limited_method receiver (Err e) = Err e
limited_method receiver (Ok m) =
    if list_any is_deep (field_types m) then Err TooManyDimensions
    else if nat_lt 255 (method_width m receiver) then Err TooWide
    else Ok m

-- the type that a field's descriptor names, or its refusal
unfoldable pub field_answer : List ℕ → Result FieldDescriptor NameFault
field_answer bytes = limited_field (whole bytes (read_field bytes))

-- the types that a method's descriptor names, or its refusal
unfoldable pub method_answer : Bool → List ℕ → Result MethodDescriptor NameFault
method_answer receiver bytes = limited_method receiver (whole bytes (read_method bytes))

-- a type of too many dimensions is none
abbrev pub within_dimensions : Option FieldDescriptor → Option FieldDescriptor
within_dimensions None = None
within_dimensions (Some t) = if is_deep t then None else Some t

abbrev pub result_in : Result MethodDescriptor NameFault → Option FieldDescriptor
result_in (Err e) = None
result_in (Ok m) = within_dimensions m.result

-- the result that a method's descriptor names, whatever its parameters
unfoldable pub result_answer : List ℕ → Option FieldDescriptor
result_answer bytes = result_in (whole bytes (read_method bytes))
