-- The answer for a descriptor's text, in words that compute.
use Rattle.std.specs.Prelude.{◌≡◌, ◌⊎◌, Bool, List, ℕ, Result, Ok, Err, MatchResult}
use Rattle.names.specs.declared.fault.NameFault.{NameFault}
use Rattle.names.specs.declared.fault.NameFault.TheVariants.{OutOfMemory}
use Rattle.names.specs.declared.descriptor.FieldType.{FieldType}
use Rattle.names.specs.declared.descriptor.MethodType.{MethodType}
use Rattle.names.specs.Types.{type_of, method_of}
use Rattle.names.specs.Reading.{field_answer, method_answer}

abbrev pub IsFieldAnswer : List ℕ → Result FieldType NameFault → Type 0
IsFieldAnswer bytes r = MatchResult r (λ f. field_answer bytes ≡ Ok (type_of f)) (λ e. field_answer bytes ≡ Err e)

-- memory may have run out in place of any answer
abbrev pub IsMethodAnswer : Bool → List ℕ → Result MethodType NameFault → Type 0
IsMethodAnswer receiver bytes r =
    MatchResult r (λ m. method_answer receiver bytes ≡ Ok (method_of m))
    (λ e. (e ≡ OutOfMemory) ⊎ (method_answer receiver bytes ≡ Err e))
