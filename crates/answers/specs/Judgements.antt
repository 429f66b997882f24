-- The answer of `verify-each` about many files, and about the files of the classes that they may refer to besides one
-- another.
use Rattle.std.specs.Prelude.{◌≡◌, ◌⊎◌, ℕ, ◌+◌, List, [], ◌∷◌, ◌++◌, codes, decimal, nat_lt, if◌then◌else◌}
use Rattle.std.specs.List.{flat_map}
use Rattle.classfile.specs.declared.profile.Profile.{Profile}
use Rattle.hierarchy.specs.declared.fault.HierarchyFault.{HierarchyFault}
use Rattle.verify.specs.declared.judgements.Judgement.{Judgement}
use Rattle.verify.specs.declared.judgements.Judgement.TheVariants.{Reported, Refused, NotInHierarchy, Final}
use Rattle.verify.specs.declared.judgements.EachFault.TheVariants.{NoHierarchy}
use Rattle.printing.specs.Names.{spelled_text}
use Rattle.verify.specs.Files.{Read}
use Rattle.verify.specs.Each.{JudgesEach, JudgesNone}
use Rattle.printing.specs.Json.{Field, number, object_line}
use Rattle.answers.specs.declared.command.Form.{Form}
use Rattle.answers.specs.declared.command.Form.TheVariants.{Plain, Json}
use Rattle.answers.specs.Files.{refusal_status}
use Rattle.answers.specs.Texts.{kind, answer}
use Rattle.answers.specs.Verdicts.{class_refusal, named_field, final_refusal, hierarchy_refusal, verdict_line, report_status}

-- ---- texts, in words or as objects of JSON; files count from 1

-- the hierarchy does not have the class
abbrev pub outside_refusal : Form → List ℕ
outside_refusal Plain = codes "class refused 80\n"
outside_refusal Json =
    object_line (kind (codes "class") ∷ answer (codes "refused") ∷ (codes "number", number 80) ∷ [])

-- the lines about a file: those of `verify` where the hierarchy has the class
abbrev pub judgement_lines : Form → Judgement → List ℕ
judgement_lines form (Reported name report) = flat_map (verdict_line form) report.methods.items
judgement_lines form (Refused r) = class_refusal form r
judgement_lines form (NotInHierarchy name) = outside_refusal form
judgement_lines form (Final name rule) = final_refusal form rule

-- the name of the class after a blank, where there is a class
abbrev pub class_text : Judgement → List ℕ
class_text (Reported name report) = codes " " ++ spelled_text name.now
class_text (Refused r) = []
class_text (NotInHierarchy name) = codes " " ++ spelled_text name.now
class_text (Final name rule) = codes " " ++ spelled_text name.now

-- the name as a field, where there is a class
abbrev pub class_fields : Judgement → List Field
class_fields (Reported name report) = named_field name.now
class_fields (Refused r) = []
class_fields (NotInHierarchy name) = named_field name.now
class_fields (Final name rule) = named_field name.now

-- the line with the number of a file and the name of its class
abbrev pub file_line : Form → ℕ → Judgement → List ℕ
file_line Plain position j = codes "file " ++ (decimal position ++ (class_text j ++ codes "\n"))
file_line Json position j =
    object_line (kind (codes "file") ∷ (codes "position", number position) ∷ class_fields j)

abbrev pub numbered_lines : Form → ℕ → Judgement → List ℕ
numbered_lines form position j = file_line form position j ++ judgement_lines form j

-- the lines about these files, the first of which has this number
abbrev pub lines_from : Form → ℕ → List Judgement → List ℕ
lines_from form position [] = []
lines_from form position (j ∷ js) = numbered_lines form position j ++ lines_from form (position + 1) js

-- ---- statuses

abbrev pub judgement_status : Judgement → ℕ
judgement_status (Reported name report) = report_status report.methods.items
judgement_status (Refused r) = refusal_status r
judgement_status (NotInHierarchy name) = 1
judgement_status (Final name rule) = 1

abbrev pub greater : ℕ → ℕ → ℕ
greater a b = if nat_lt a b then b else a

-- the greatest status of these judgements, or 0
abbrev pub worst_status : List Judgement → ℕ
worst_status [] = 0
worst_status (j ∷ js) = greater (judgement_status j) (worst_status js)

-- ---- the answer

-- the answer to `verify-each` in a form, by a profile: about each file in the hierarchy of the classes that stand, or why these
-- classes are no hierarchy
abbrev pub EachSays : Form → Profile → List Read → List Read → List ℕ → ℕ → Type 0
EachSays form profile reads known text status =
    ((js : List Judgement) × JudgesEach profile reads known js × (text ≡ lines_from form 1 js)
    × (status ≡ worst_status js))
    ⊎ ((f : HierarchyFault) × JudgesNone reads known (NoHierarchy f) × (text ≡ hierarchy_refusal form f)
    × (status ≡ 1))
