-- The fields of faults in objects of JSON: the number, and then where it was met.
use Rattle.std.specs.Prelude.{ℕ, List, [], ◌∷◌, codes}
use Rattle.layout.specs.declared.fault.ReadFault.{ReadFault}
use Rattle.layout.specs.declared.fault.ReadFault.TheVariants.{OutOfMemory, EndsEarly, BadText, BadTag, BadMagic, BadVersion, AttributeLength, BytesAfter, TooLong, ReadFailed, BadPoolCount, BadFrameType, BadTypeTag}
use Rattle.classfile.specs.declared.form_fault.Place.{Place}
use Rattle.classfile.specs.declared.form_fault.Place.TheVariants.{Pool, Class, Field, Method}
use Rattle.printing.specs.Json as json
use Rattle.printing.specs.Json.{word, number}

abbrev pub number_fields : ℕ → List json.Field
number_fields n = (codes "number", number n) ∷ []

abbrev pub at_fields : ℕ → ℕ → List json.Field
at_fields n at = (codes "number", number n) ∷ (codes "at", number at) ∷ []

abbrev pub fault_fields : ReadFault → List json.Field
fault_fields OutOfMemory = number_fields 1
fault_fields (EndsEarly at) = at_fields 2 at
fault_fields (BadText at) = at_fields 3 at
fault_fields (BadTag at tag) = (codes "number", number 7) ∷ (codes "at", number at) ∷ (codes "tag", number tag) ∷ []
fault_fields BadMagic = number_fields 10
fault_fields (BadVersion major minor) =
    (codes "number", number 11) ∷ (codes "major", number major) ∷ (codes "minor", number minor) ∷ []
fault_fields (AttributeLength at) = at_fields 12 at
fault_fields (BytesAfter at) = at_fields 13 at
fault_fields (TooLong at) = at_fields 14 at
fault_fields (ReadFailed at) = at_fields 15 at
fault_fields (BadPoolCount at) = at_fields 16 at
fault_fields (BadFrameType at) = at_fields 47 at
fault_fields (BadTypeTag at) = at_fields 48 at

-- a kind of place, and which of its kind it is
abbrev pub indexed_fields : List ℕ → ℕ → List json.Field
indexed_fields kind index = (codes "place", word kind) ∷ (codes "index", number index) ∷ []

-- where a rule is broken
abbrev pub place_fields : Place → List json.Field
place_fields (Pool index) = indexed_fields (codes "pool") index
place_fields Class = (codes "place", word (codes "class")) ∷ []
place_fields (Field n) = indexed_fields (codes "field") n
place_fields (Method n) = indexed_fields (codes "method") n
