-- The lines, and the fields, on what is wrong where a method is refused.
use Rattle.std.specs.Prelude.{ℕ, Bool, true, false, nat_eq, if◌then◌else◌, List, [], ◌∷◌, ◌++◌, Option, Some, None, codes, decimal}
use Rattle.frames.specs.declared.difference.Sought.{Sought}
use Rattle.frames.specs.declared.difference.Sought.TheVariants.{No, Missing}
use Rattle.rules.specs.ReasonNumbers.{absent_class}
use Rattle.verify.specs.Details.{DetailFact, arriving, taken, target, handler, entry, map_entry}
use Rattle.verify.specs.DifferencesAt.{DifferenceAtFact}
use Rattle.printing.specs.Differences.{difference_line, difference_fields}
use Rattle.printing.specs.Json as json
use Rattle.printing.specs.Json.{Field}
use Rattle.answers.specs.Unmet.{unmet_line, unmet_fields}

-- the answer of the comparisons that a number is about
abbrev pub sought_by : ℕ → Sought
sought_by n = if nat_eq n absent_class then Missing else No

-- the frame that comes to the instruction and the one that is declared there are compared
abbrev pub is_arriving : Option DetailFact → Bool
is_arriving (Some (arriving d)) = true
is_arriving _ = false

-- the place of the entry of the exception table at fault, if one is
abbrev pub entry_of : Option DetailFact → Option ℕ
entry_of (Some (handler place d)) = Some place
entry_of (Some (entry place)) = Some place
entry_of _ = None

-- ---- in words; the entry of the exception table is shown after

abbrev pub placed_line : Sought → List ℕ → DifferenceAtFact → List ℕ
placed_line sought word d =
    codes "  " ++ (word ++ (codes " " ++ (decimal d.at ++ (codes "\n" ++ difference_line sought d.difference))))

abbrev pub offset_text : Option ℕ → List ℕ
offset_text None = codes "\n"
offset_text (Some at) = codes " at " ++ (decimal at ++ codes "\n")

abbrev pub detail_line : Sought → DetailFact → List ℕ
detail_line sought (arriving d) = difference_line sought d
detail_line sought (taken x) = unmet_line x
detail_line sought (target d) = placed_line sought (codes "target") d
detail_line sought (handler place d) = placed_line sought (codes "handler") d
detail_line sought (entry place) = []
detail_line sought (map_entry place at) = codes "  entry " ++ (decimal place ++ offset_text at)

abbrev pub detail_line_of : Sought → Option DetailFact → List ℕ
detail_line_of sought None = []
detail_line_of sought (Some x) = detail_line sought x

-- ---- as fields of an object of JSON

abbrev pub placed_fields : List ℕ → DifferenceAtFact → List Field
placed_fields word d = (word, json.number d.at) ∷ difference_fields d.difference

abbrev pub offset_fields : Option ℕ → List Field
offset_fields None = []
offset_fields (Some at) = (codes "entry_at", json.number at) ∷ []

abbrev pub detail_fields : DetailFact → List Field
detail_fields (arriving d) = difference_fields d
detail_fields (taken x) = unmet_fields x
detail_fields (target d) = placed_fields (codes "target") d
detail_fields (handler place d) = placed_fields (codes "handler") d
detail_fields (entry place) = []
detail_fields (map_entry place at) = (codes "entry", json.number place) ∷ offset_fields at

abbrev pub detail_fields_of : Option DetailFact → List Field
detail_fields_of None = []
detail_fields_of (Some x) = detail_fields x
