-- The answer to `play` about the classes in files.
use Rattle.std.specs.Prelude.{◌≡◌, ◌≢◌, ◌⊎◌, ℕ, ◌+◌, List, [], ◌∷◌, ◌++◌, map, codes, decimal}
use Rattle.classfile.specs.Values.{Class}
use Rattle.classfile.specs.Methods.{JudgedClass}
use Rattle.classfile.specs.CodeMethods.{judged}
use Rattle.classfile.specs.declared.profile.Profile.{Profile}
use Rattle.hierarchy.specs.declared.fault.HierarchyFault.{HierarchyFault}
use Rattle.hierarchy.specs.declared.fault.HierarchyFault.TheVariants.{OutOfMemory}
use Rattle.hierarchy.specs.Class.{ClassFact}
use Rattle.hierarchy.specs.Rules.{IsHierarchy}
use Rattle.hierarchy.specs.Faults.{FaultOf}
use Rattle.verify.specs.declared.files.FileFault.{FileFault}
use Rattle.verify.specs.declared.report.MethodVerdict.{MethodVerdict}
use Rattle.verify.specs.declared.report.Report.{Report}
use Rattle.verify.specs.declared.play.PlayRule.{PlayRule}
use Rattle.verify.specs.declared.play.PlayRule.TheVariants.{NotInHierarchy, Final, ClassInPlayTwice}
use Rattle.verify.specs.Files.{Read, AreFormed, IsFirstRefused}
use Rattle.verify.specs.Together.{facts_in}
use Rattle.verify.specs.Plays.{HasRefused, Breaks, ArePlayed, BreaksFirst}
use Rattle.answers.specs.Files.{refusal_status}
use Rattle.printing.specs.Json.{Field, number, object_line, object_then, fields_behind}
use Rattle.answers.specs.Texts.{refusal_text, refusal_fields, kind, answer}
use Rattle.answers.specs.Verdicts.{final_rule_text, final_rule_fields, hierarchy_refusal, verdict_line}
use Rattle.answers.specs.declared.command.Form.{Form}
use Rattle.answers.specs.declared.command.Form.TheVariants.{Plain, Json}

-- ---- texts, in words or as objects of JSON; classes count from 1

abbrev pub numbered_refusal : Form → ℕ → FileFault → List ℕ
numbered_refusal Plain position r =
    codes "class " ++ (decimal position ++ (codes " refused " ++ (refusal_text r ++ codes "\n")))
numbered_refusal Json position r =
    object_line (kind (codes "class") ∷ (codes "position", number position) ∷ answer (codes "refused")
    ∷ refusal_fields r)

-- a rule that a class breaks: its number, and what breaks it
abbrev pub rule_text : PlayRule → List ℕ
rule_text NotInHierarchy = decimal 80
rule_text (Final rule) = final_rule_text rule
rule_text ClassInPlayTwice = decimal 83

abbrev pub rule_fields : PlayRule → List Field
rule_fields NotInHierarchy = (codes "number", number 80) ∷ []
rule_fields (Final rule) = final_rule_fields rule
rule_fields ClassInPlayTwice = (codes "number", number 83) ∷ []

-- the object of the class of this number that is refused, with this text after these fields
abbrev pub class_by_number : ℕ → List ℕ → List ℕ
class_by_number position rest =
    object_then (kind (codes "class")) ((codes "position", number position) ∷ answer (codes "refused") ∷ []) rest

abbrev pub rule_refusal : Form → ℕ → PlayRule → List ℕ
rule_refusal Plain position rule =
    codes "class " ++ (decimal position ++ (codes " refused " ++ (rule_text rule ++ codes "\n")))
rule_refusal Json position rule = class_by_number position (fields_behind (rule_fields rule))

-- the object of the class says which class it is, and that of the method what the verdict is
abbrev pub method_refusal : Form → ℕ → MethodVerdict → List ℕ
method_refusal Plain position r = codes "class " ++ (decimal position ++ (codes " " ++ verdict_line Plain r))
method_refusal Json position r =
    class_by_number position (fields_behind ((codes "number", number 84) ∷ [])) ++ verdict_line Json r

abbrev pub play_verified : Form → List ℕ
play_verified Plain = codes "play verified\n"
play_verified Json = object_line (kind (codes "play") ∷ answer (codes "verified") ∷ [])

-- ---- the answer

-- the answer about the class at a place that is refused: the rule that it breaks, or its first method that is refused
abbrev pub BrokenSays : Form → List ClassFact → List JudgedClass → ℕ → JudgedClass → List ℕ → ℕ → Type 0
BrokenSays form classes cs place c text status =
    ((rule : PlayRule) × Breaks classes cs place c rule × (text ≡ rule_refusal form (place + 1) rule) × (status ≡ 1))
    ⊎ ((n : ℕ) × (r : MethodVerdict) × HasRefused classes cs place c n r × (text ≡ method_refusal form (place + 1) r)
    × (status ≡ 1))

-- the answer about classes in their hierarchy: the first that is refused, or that all are verified
abbrev pub ClassesSay : Form → List ClassFact → List JudgedClass → List ℕ → ℕ → Type 0
ClassesSay form classes cs text status =
    ((place : ℕ) × BreaksFirst classes cs place (λ c. BrokenSays form classes cs place c text status))
    ⊎ ((rs : List Report) × ArePlayed classes cs rs × (text ≡ play_verified form) × (status ≡ 0))

-- why the classes are no hierarchy, or the answer about them in it
abbrev pub TogetherSay : Form → List JudgedClass → List ℕ → ℕ → Type 0
TogetherSay form cs text status =
    ((f : HierarchyFault) × (f ≢ OutOfMemory) × FaultOf (facts_in cs) f × (text ≡ hierarchy_refusal form f)
    × (status ≡ 1))
    ⊎ (IsHierarchy (facts_in cs) × ClassesSay form (facts_in cs) cs text status)

-- the answer to `play` in a form, by a profile: the first file that is refused, or the answer about the classes
abbrev pub PlaySays : Form → Profile → List Read → List ℕ → ℕ → Type 0
PlaySays form profile reads text status =
    ((i : ℕ) × (r : FileFault) × IsFirstRefused reads i r × (text ≡ numbered_refusal form (i + 1) r)
    × (status ≡ refusal_status r))
    ⊎ ((cs : List Class) × AreFormed reads cs × TogetherSay form (map (judged profile) cs) text status)
