-- The line of the first place at which an incoming frame differs from the declared one (JVMS 4.10.1.4), or of the first
-- one at which their comparison asks for a class that is missing, and its fields.
use Rattle.std.specs.Prelude.{ℕ, List, [], ◌∷◌, ◌++◌, codes, decimal}
use Rattle.frames.specs.Differences.{MismatchFact, DifferenceFact, flag, local, sizes, item}
use Rattle.frames.specs.declared.difference.Sought.{Sought}
use Rattle.frames.specs.declared.difference.Sought.TheVariants.{No, Missing}
use Rattle.printing.specs.Frames.{type_text}
use Rattle.printing.specs.Json.{Field, number, word, written}
use Rattle.printing.specs.declared.names_in.Within.TheVariants.{Words, Json}

-- two types, of which the one that comes is not assignable to the declared one, or is not known to be
abbrev pub types_differ : Sought → MismatchFact → List ℕ
types_differ No m = type_text Words m.from ++ (codes " is not assignable to " ++ (type_text Words m.to ++ codes "\n"))
types_differ Missing m =
    codes "whether " ++ (type_text Words m.from ++ (codes " is assignable to " ++ (type_text Words m.to
    ++ codes " is not known\n")))

abbrev pub mismatch_line : Sought → List ℕ → MismatchFact → List ℕ
mismatch_line sought part m =
    codes "  " ++ (part ++ (codes " " ++ (decimal m.place ++ (codes ": " ++ types_differ sought m))))

abbrev pub difference_line : Sought → DifferenceFact → List ℕ
difference_line sought flag = codes "  flags: flagThisUninit comes and is not declared\n"
difference_line sought (local m) = mismatch_line sought (codes "local") m
difference_line sought (sizes from to) =
    codes "  stack: items that come " ++ (decimal from ++ (codes ", declared " ++ (decimal to ++ codes "\n")))
difference_line sought (item m) = mismatch_line sought (codes "stack") m

-- ---- as fields of an object of JSON

abbrev pub mismatch_fields : List ℕ → MismatchFact → List Field
mismatch_fields part m =
    (codes "differs", word part) ∷ (codes "index", number m.place) ∷ (codes "type", written (type_text Json m.from))
    ∷ (codes "declared_type", written (type_text Json m.to)) ∷ []

abbrev pub difference_fields : DifferenceFact → List Field
difference_fields flag = (codes "differs", word (codes "flags")) ∷ []
difference_fields (local m) = mismatch_fields (codes "local") m
difference_fields (sizes from to) =
    (codes "differs", word (codes "stack_size")) ∷ (codes "size", number from) ∷ (codes "declared_size", number to) ∷ []
difference_fields (item m) = mismatch_fields (codes "stack") m
