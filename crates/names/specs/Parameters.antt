-- The parameters of a method that are not taken yet (JVMS 4.3.3).
use Rattle.std.specs.Prelude.{◌≡◌, ℕ, zero, suc, List, [], ◌∷◌, length, Option, Some, None, if◌then◌else◌}
use Rattle.names.specs.Descriptors.{FieldDescriptor}
use Rattle.names.specs.Types.{type_of}
use Rattle.names.specs.Reading.{Reading, found, outside, is_deep, read_field}
use Rattle.names.specs.declared.descriptor.FieldType.{FieldType}
use Rattle.names.specs.declared.parameters.Parameters.{Parameters}

-- a type, unless it has too many dimensions, and others after it
abbrev pub type_and : Reading FieldDescriptor → (List ℕ → List FieldDescriptor) → List FieldDescriptor
type_and (outside rest) others = []
type_and (found t rest) others = if is_deep t then [] else t ∷ others rest

-- the types at the front of the bytes, so many at most
unfoldable pub types_at : ℕ → List ℕ → List FieldDescriptor
types_at zero bytes = []
types_at (suc n) bytes = type_and (read_field bytes) (types_at n)

-- those that are left; each takes a byte at least
abbrev pub types_left : Parameters → List FieldDescriptor
types_left p = types_at (length p.rest.now) p.rest.now

-- the first of those that are left is taken, or none is left
abbrev pub TakesFirst : Parameters → Option FieldType → Parameters → Type 0
TakesFirst old None new = (types_left old ≡ []) × (types_left new ≡ [])
TakesFirst old (Some t) new = types_left old ≡ type_of t ∷ types_left new
