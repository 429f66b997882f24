-- The kind of a type by the parts of its number: its tag, its dimensions and the two bytes after them.
use Rattle.std.specs.Prelude.{ℕ, Bool, true, false, not, ◌&&◌, ◌||◌, nat_eq, nat_lt}
use Rattle.names.specs.declared.base.Primitive.{Primitive}
use Rattle.names.specs.Descriptors.{primitive}
use Rattle.insn.specs.Operators.{takes_array}
use Rattle.frames.specs.VerificationType.{VerificationType, array}
use Rattle.type_numbers.specs.Decoding.{element_at}

abbrev pub is_reference_by : ℕ → Bool
is_reference_by tag = nat_lt 4 tag

-- null, an array of primitives, or a class with dimensions
abbrev pub is_array_by : ℕ → ℕ → Bool
is_array_by tag dims = nat_eq tag 5 || (nat_eq tag 9 || ((nat_eq tag 7 || nat_lt 9 tag) && nat_lt 0 dims))

-- null, or one array of primitives
abbrev pub is_array_for_by : Primitive → ℕ → ℕ → ℕ → Bool
is_array_for_by p tag dims rest = nat_eq tag 5 || ((nat_eq tag 9 && nat_lt dims 2) && takes_array p (element_at rest))

-- an array of arrays of primitives, or a class with dimensions
abbrev pub holds_references_by : ℕ → ℕ → Bool
holds_references_by tag dims = (nat_eq tag 9 && nat_lt 1 dims) || ((nat_eq tag 7 || nat_lt 9 tag) && nat_lt 0 dims)

abbrev pub holds_references : VerificationType → Bool
holds_references (array (primitive p)) = false
holds_references (array component) = true
holds_references _ = false

abbrev pub is_own_by : ℕ → Bool
is_own_by tag = nat_eq tag 6

-- not top, and no long or double
abbrev pub is_narrow_by : ℕ → Bool
is_narrow_by tag = not (nat_eq tag 0 || (nat_eq tag 3 || nat_eq tag 4))
