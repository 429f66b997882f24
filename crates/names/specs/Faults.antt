-- The refusals of texts and descriptors: their numbers, and what each of them says of a descriptor's text
-- (JVMS 4.3): 4 that it spells none, 5 and 6 that it spells one beyond a limit, 6 only where 5 does not hold.
use Rattle.std.specs.Prelude.{◌≡◌, ℕ, ◌<◌, Bool, List, [], ◌∷◌, ◌++◌, length, Any}
use Rattle.names.specs.declared.fault.NameFault.{NameFault}
use Rattle.names.specs.declared.fault.NameFault.TheVariants.{OutOfMemory, BadText, BadDescriptor, TooManyDimensions, TooWide}
use Rattle.names.specs.Descriptors.{FieldDescriptor, MethodDescriptor, SpellsField, SpellsMethod, dimensions, field_types, method_width, AreWithinDimensions}

abbrev pub number_of : NameFault → ℕ
number_of OutOfMemory = 1
number_of (BadText at) = 3
number_of (BadDescriptor at) = 4
number_of TooManyDimensions = 5
number_of TooWide = 6

-- with some more bytes after them, or with none, the bytes are whole
pub record IsBeginning (IsWhole : List ℕ → Type 0) (front : List ℕ) : Type 0 where
  pub more : List ℕ
  pub whole : IsWhole (front ++ more)

-- after a beginning stands a byte with which it is no longer a beginning, or nothing although it is not whole
abbrev pub IsStuck : (List ℕ → Type 0) → List ℕ → List ℕ → Type 0
IsStuck IsWhole front [] = ¬ IsWhole front
IsStuck IsWhole front (b ∷ rest) = ¬ IsBeginning IsWhole (front ++ b ∷ [])

-- so many bytes are the longest front that is a beginning, and the bytes are not whole
pub record IsBadAt (IsWhole : List ℕ → Type 0) (bytes : List ℕ) (place : ℕ) : Type 0 where
  pub front : List ℕ
  pub rest : List ℕ
  pub parts : bytes ≡ front ++ rest
  pub count : length front ≡ place
  pub begins : IsBeginning IsWhole front
  pub stuck : IsStuck IsWhole front rest

-- the bytes spell a field type, of however many dimensions
abbrev pub IsFieldDescriptor : List ℕ → Type 0
IsFieldDescriptor bytes = (t : FieldDescriptor) × SpellsField bytes t

-- the bytes spell a method's types, however many and however wide
abbrev pub IsMethodDescriptor : List ℕ → Type 0
IsMethodDescriptor bytes = (m : MethodDescriptor) × SpellsMethod bytes m

-- the bytes spell a field type of over 255 dimensions
pub record SpellsDeepField (bytes : List ℕ) : Type 0 where
  pub type : FieldDescriptor
  pub spelled : SpellsField bytes type
  pub deep : 255 < dimensions type

-- the bytes spell a method's descriptor with a type of over 255 dimensions
pub record SpellsDeepMethod (bytes : List ℕ) : Type 0 where
  pub type : MethodDescriptor
  pub spelled : SpellsMethod bytes type
  pub deep : Any (λ t. 255 < dimensions t) (field_types type)

-- the bytes spell a method's descriptor that is too wide, but has no such type
pub record SpellsWideMethod (receiver : Bool) (bytes : List ℕ) : Type 0 where
  pub type : MethodDescriptor
  pub spelled : SpellsMethod bytes type
  pub within : AreWithinDimensions type
  pub wide : 255 < method_width type receiver

-- why the bytes are refused as a field's descriptor; no two refusals hold of the same bytes
abbrev pub IsFieldFault : List ℕ → NameFault → Type 0
IsFieldFault bytes OutOfMemory = ⊥
IsFieldFault bytes (BadText place) = ⊥
IsFieldFault bytes (BadDescriptor place) = IsBadAt IsFieldDescriptor bytes place
IsFieldFault bytes TooManyDimensions = SpellsDeepField bytes
IsFieldFault bytes TooWide = ⊥

-- why the bytes are refused as a method's descriptor; no two refusals hold of the same bytes
abbrev pub IsMethodFault : Bool → List ℕ → NameFault → Type 0
IsMethodFault receiver bytes OutOfMemory = ⊥
IsMethodFault receiver bytes (BadText place) = ⊥
IsMethodFault receiver bytes (BadDescriptor place) = IsBadAt IsMethodDescriptor bytes place
IsMethodFault receiver bytes TooManyDimensions = SpellsDeepMethod bytes
IsMethodFault receiver bytes TooWide = SpellsWideMethod receiver bytes
