-- The values of the definitions that the program's values stand for.
use Rattle.std.specs.Prelude.{ℕ, zero, suc, if◌then◌else◌, List, [], ◌∷◌, map, reverse}
use Rattle.frames.specs.declared.vtype.VType.{VType}
use Rattle.frames.specs.VerificationType.{VerificationType, type_of, top}
use Rattle.frames.specs.Slots.{is_wide}
use Rattle.rules.specs.declared.expected.ExpectedType.{ExpectedType as RawExpectedType}
use Rattle.rules.specs.declared.expected.ExpectedType.TheVariants.{Number, Assignable, Reference, Array, ArrayFor, OwnOr}
use Rattle.names.specs.References.{reference_view}
use Rattle.rules.specs.TypingRules.{ExpectedType, number, assignable_to, any_reference, any_array, any_array_for, own_or_assignable_to}

-- a stack with its top last, as the program keeps it, with its top first
abbrev pub stack_of : List VType → List VerificationType
stack_of types = reverse (map type_of types)

abbrev pub locals_of : List VType → List VerificationType
locals_of types = map type_of types

abbrev pub expected_view : RawExpectedType → ExpectedType
expected_view (Number kind) = number kind
expected_view (Assignable type) = assignable_to (reference_view type)
expected_view Reference = any_reference
expected_view Array = any_array
expected_view (ArrayFor p) = any_array_for p
expected_view (OwnOr name) = own_or_assignable_to name.now

-- locals in which a long or double just before a place is top, since its second half is gone
abbrev pub with_half_free : ℕ → List VerificationType → List VerificationType
with_half_free n [] = []
with_half_free zero (x ∷ xs) = x ∷ xs
with_half_free (suc zero) (x ∷ xs) = (if is_wide x then top else x) ∷ xs
with_half_free (suc (suc n)) (x ∷ xs) = x ∷ with_half_free (suc n) xs
