-- The line that tells which expected type of an instruction the frame before it does not meet, and its fields.
use Rattle.std.specs.Prelude.{ℕ, List, [], ◌∷◌, ◌++◌, Option, Some, None, codes, decimal}
use Rattle.names.specs.declared.base.Primitive.{Primitive}
use Rattle.names.specs.declared.base.Primitive.TheVariants.{Byte}
use Rattle.names.specs.Descriptors.{primitive}
use Rattle.frames.specs.VerificationType.{VerificationType, class, array}
use Rattle.frames.specs.Slots.{number_type, to_reference}
use Rattle.rules.specs.TypingRules.{ExpectedType, number, assignable_to, any_reference, any_array, any_array_for, own_or_assignable_to}
use Rattle.rules.specs.Unmet.{UnmetFact, operand, receiver, local, units}
use Rattle.printing.specs.Frames.{type_text}
use Rattle.printing.specs.Json as json
use Rattle.printing.specs.Json.{Field, word, written}
use Rattle.printing.specs.declared.names_in.Within.{Within}
use Rattle.printing.specs.declared.names_in.Within.TheVariants.{Words, Json}

-- ---- types

-- baload and bastore take arrays of booleans too
abbrev pub array_for_text : Within → Primitive → List ℕ
array_for_text within Byte = codes "Class [B or Class [Z"
array_for_text within p = type_text within (array (primitive p))

abbrev pub expected_text : Within → ExpectedType → List ℕ
expected_text within (number kind) = type_text within (number_type kind)
expected_text within (assignable_to type) = type_text within (to_reference type)
expected_text within any_reference = codes "reference"
expected_text within any_array = codes "array"
expected_text within (any_array_for p) = array_for_text within p
expected_text within (own_or_assignable_to name) = codes "uninitializedThis or " ++ type_text within (class name)

-- an object that a constructor of this class may be called on
abbrev pub uninitialized_text : Within → List ℕ → List ℕ
uninitialized_text within name = codes "uninitialized " ++ type_text within (class name)

abbrev pub found_text : Option VerificationType → List ℕ
found_text None = codes "none"
found_text (Some t) = type_text Words t

-- ---- in words

abbrev pub expected_found : List ℕ → Option VerificationType → List ℕ
expected_found expected found =
    codes ": expected " ++ (expected ++ (codes ", found " ++ (found_text found ++ codes "\n")))

abbrev pub operand_line : ℕ → ℕ → List ℕ → Option VerificationType → List ℕ
operand_line place count expected found =
    codes "  operand " ++ (decimal place ++ (codes " of " ++ (decimal count ++ expected_found expected found)))

abbrev pub unmet_line : UnmetFact → List ℕ
unmet_line (operand wrong count) = operand_line wrong.place count (expected_text Words wrong.expected) wrong.found
unmet_line (receiver name found count) = operand_line 1 count (uninitialized_text Words name) found
unmet_line (local place expected found) =
    codes "  local " ++ (decimal place ++ expected_found (expected_text Words expected) (Some found))
unmet_line (units taken there) =
    codes "  stack: expected units " ++ (decimal taken ++ (codes ", found " ++ (decimal there ++ codes "\n")))

-- ---- as fields of an object of JSON

-- no field where nothing is found
abbrev pub found_fields : Option VerificationType → List Field
found_fields None = []
found_fields (Some t) = (codes "type", written (type_text Json t)) ∷ []

abbrev pub operand_fields : ℕ → ℕ → List ℕ → Option VerificationType → List Field
operand_fields place count expected found =
    (codes "differs", word (codes "operand")) ∷ (codes "index", json.number place)
    ∷ (codes "count", json.number count) ∷ (codes "expected_type", written expected)
    ∷ found_fields found

abbrev pub unmet_fields : UnmetFact → List Field
unmet_fields (operand wrong count) = operand_fields wrong.place count (expected_text Json wrong.expected) wrong.found
unmet_fields (receiver name found count) = operand_fields 1 count (uninitialized_text Json name) found
unmet_fields (local place expected found) =
    (codes "differs", word (codes "local")) ∷ (codes "index", json.number place)
    ∷ (codes "expected_type", written (expected_text Json expected))
    ∷ (codes "type", written (type_text Json found)) ∷ []
unmet_fields (units taken there) =
    (codes "differs", word (codes "stack_units")) ∷ (codes "expected_units", json.number taken)
    ∷ (codes "units", json.number there) ∷ []
