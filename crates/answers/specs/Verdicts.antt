-- The answers to `verify` and `explain` about a class among its known classes.
use Rattle.std.specs.Prelude.{◌≡◌, ◌≢◌, ◌⊎◌, ℕ, ◌+◌, Bool, true, false, if◌then◌else◌, List, [], ◌∷◌, ◌++◌, map, codes, decimal, slice_get, Option, Some, None}
use Rattle.std.specs.List.{flat_map, list_any}
use Rattle.std.specs.Option.{option_map_or}
use Rattle.pool.specs.Entries.{Entry}
use Rattle.classfile.specs.Values.{CodeBody, Class}
use Rattle.classfile.specs.Methods.{JudgedClass}
use Rattle.classfile.specs.CodeMethods.{judged}
use Rattle.classfile.specs.FileParts.{fault_part}
use Rattle.classfile.specs.declared.form_fault.Place.TheVariants.{Method}
use Rattle.classfile.specs.declared.profile.Profile.{Profile}
use Rattle.hierarchy.specs.declared.fault.HierarchyFault.{HierarchyFault}
use Rattle.hierarchy.specs.declared.fault.HierarchyFault.TheVariants.{OutOfMemory, ClassTwice, Cycle, SuperMissing, NoObject, BadArrayInterface, TooManyClasses, InterfaceSuper}
use Rattle.hierarchy.specs.Class.{ClassFact}
use Rattle.hierarchy.specs.Rules.{IsHierarchy}
use Rattle.hierarchy.specs.Faults.{FaultOf, number_of}
use Rattle.hierarchy.specs.ClassSummary.{summary_of}
use Rattle.rules.specs.declared.reason.Reason.{Reason}
use Rattle.rules.specs.declared.reason.Reason.TheVariants.{ClassMissing, BadStackMap, BadCode}
use Rattle.rules.specs.Reasons.{reason_number}
use Rattle.verify.specs.declared.verdict.Verdict.{Verdict}
use Rattle.verify.specs.declared.verdict.Verdict.TheVariants.{Verified, NoCode, Refused}
use Rattle.verify.specs.declared.report.MethodVerdict.{MethodVerdict}
use Rattle.verify.specs.declared.final_rules.FinalRule.{FinalRule}
use Rattle.verify.specs.declared.final_rules.FinalRule.TheVariants.{FinalSuper, FinalOverridden}
use Rattle.verify.specs.FinalRules.{final_rule, final_rule_number}
use Rattle.verify.specs.Beside.{GoWith}
use Rattle.verify.specs.declared.frames_at.FramesAt.{FramesAt}
use Rattle.verify.specs.Coming.{FramesFact, AreFramed}
use Rattle.verify.specs.Reports.{IsReport}
use Rattle.printing.specs.Faults.{at_text, place_text}
use Rattle.printing.specs.FaultFields.{place_fields}
use Rattle.printing.specs.Names.{name_text, spelled_text}
use Rattle.printing.specs.Json.{Field, number, spelled, name, object_then, object_line, fields_then, fields_behind}
use Rattle.answers.specs.Texts.{refusal_text, refusal_fields, kind, answer}
use Rattle.answers.specs.declared.command.Form.{Form}
use Rattle.answers.specs.declared.command.Form.TheVariants.{Plain, Json}
use Rattle.answers.specs.declared.manner.Manner.{Manner}
use Rattle.answers.specs.declared.manner.Manner.TheVariants.{Told, Explained}
use Rattle.answers.specs.Sentences.{sentence_line, sentence_fields, file_sentence_line, file_sentence_fields}
use Rattle.answers.specs.Explanations.{explanation, explanation_object, explanations}
use Rattle.printing.specs.FileParts.{file_part_lines, file_part_fields}
use Rattle.printing.specs.ClassParts.{part_lines, attribute_line, part_fields, attribute_fields}
use Rattle.verify.specs.declared.files.FileFault.{FileFault}
use Rattle.verify.specs.declared.files.FileFault.TheVariants.{Malformed, NoClass, Unread}
use Rattle.verify.specs.Files.{IsDecoded, IsFormed, IsRefused, AreFormed, IsFirstRefused}
use Rattle.answers.specs.Files.{File, reads_of, refusal_status}

-- ---- texts, in words or as objects of JSON

-- the object of a file that is refused as the class to be verified, with this text after its fields
abbrev pub class_object : FileFault → List ℕ → List ℕ
class_object r rest = object_then (kind (codes "class")) (answer (codes "refused") ∷ refusal_fields r) rest

abbrev pub class_refusal : Form → FileFault → List ℕ
class_refusal Plain r = codes "class refused " ++ (refusal_text r ++ codes "\n")
class_refusal Json r = object_line (kind (codes "class") ∷ answer (codes "refused") ∷ refusal_fields r)

abbrev pub known_object : ℕ → FileFault → List ℕ → List ℕ
known_object position r rest =
    object_then (kind (codes "known"))
    ((codes "position", number position) ∷ answer (codes "refused") ∷ refusal_fields r) rest

-- the object of a file that is refused: as the known class at this position, or, where there is none, as the class to
-- be verified
abbrev pub file_object : Option ℕ → FileFault → List ℕ → List ℕ
file_object None r rest = class_object r rest
file_object (Some position) r rest = known_object position r rest

-- the refusal of the known class at this position, counted from 1
abbrev pub known_refusal : Form → ℕ → FileFault → List ℕ
known_refusal Plain position r =
    codes "known " ++ (decimal position ++ (codes " refused " ++ (refusal_text r ++ codes "\n")))
known_refusal Json position r =
    object_line (kind (codes "known") ∷ (codes "position", number position) ∷ answer (codes "refused")
    ∷ refusal_fields r)

-- the name of the class that has the fault, after a blank, where the fault has one
abbrev pub fault_name : HierarchyFault → List ℕ
fault_name OutOfMemory = []
fault_name (ClassTwice name) = codes " " ++ spelled_text name.now
fault_name (Cycle name) = codes " " ++ spelled_text name.now
fault_name (SuperMissing name) = codes " " ++ spelled_text name.now
fault_name NoObject = []
fault_name (BadArrayInterface name) = codes " " ++ spelled_text name.now
fault_name TooManyClasses = []
fault_name (InterfaceSuper name) = codes " " ++ spelled_text name.now

abbrev pub named_field : List ℕ → List Field
named_field bytes = (codes "name", spelled bytes) ∷ []

abbrev pub name_fields : HierarchyFault → List Field
name_fields OutOfMemory = []
name_fields (ClassTwice name) = named_field name.now
name_fields (Cycle name) = named_field name.now
name_fields (SuperMissing name) = named_field name.now
name_fields NoObject = []
name_fields (BadArrayInterface name) = named_field name.now
name_fields TooManyClasses = []
name_fields (InterfaceSuper name) = named_field name.now

abbrev pub hierarchy_refusal : Form → HierarchyFault → List ℕ
hierarchy_refusal Plain f = codes "hierarchy refused " ++ (decimal (number_of f) ++ (fault_name f ++ codes "\n"))
hierarchy_refusal Json f =
    object_line (kind (codes "hierarchy") ∷ answer (codes "refused") ∷ (codes "number", number (number_of f))
    ∷ name_fields f)

abbrev pub hierarchy_object : HierarchyFault → List ℕ → List ℕ
hierarchy_object f rest =
    object_then (kind (codes "hierarchy"))
    (answer (codes "refused") ∷ (codes "number", number (number_of f)) ∷ name_fields f) rest

-- a rule on final classes and methods: its number, and then the method that breaks it
abbrev pub final_rule_text : FinalRule → List ℕ
final_rule_text FinalSuper = decimal 81
final_rule_text (FinalOverridden method) = decimal 85 ++ place_text (Method method)

abbrev pub final_rule_fields : FinalRule → List Field
final_rule_fields FinalSuper = (codes "number", number 81) ∷ []
final_rule_fields (FinalOverridden method) = (codes "number", number 85) ∷ place_fields (Method method)

-- the class breaks it
abbrev pub final_refusal : Form → FinalRule → List ℕ
final_refusal Plain rule = codes "class refused " ++ (final_rule_text rule ++ codes "\n")
final_refusal Json rule = object_line (kind (codes "class") ∷ answer (codes "refused") ∷ final_rule_fields rule)

-- that method, as the part of the class
abbrev pub final_part_lines : Class → FinalRule → List ℕ
final_part_lines c FinalSuper = []
final_part_lines c (FinalOverridden method) = part_lines c (Method method)

abbrev pub final_part_fields : Class → FinalRule → List Field
final_part_fields c FinalSuper = []
final_part_fields c (FinalOverridden method) = part_fields c (Method method)

-- the text after a reason: the class that is missing, or the number of the fault in a stack map or in code
abbrev pub reason_ending : Reason → List ℕ
reason_ending (ClassMissing name) = codes " missing " ++ spelled_text name.now
reason_ending (BadStackMap fault) = codes " fault " ++ decimal fault
reason_ending (BadCode fault) = codes " fault " ++ decimal fault
reason_ending why = []

abbrev pub reason_fields : Reason → List Field
reason_fields (ClassMissing name) = (codes "missing", spelled name.now) ∷ []
reason_fields (BadStackMap fault) = (codes "fault", number fault) ∷ []
reason_fields (BadCode fault) = (codes "fault", number fault) ∷ []
reason_fields why = []

abbrev pub verdict_text : Verdict → List ℕ
verdict_text Verified = codes " verified"
verdict_text NoCode = codes " no code"
verdict_text (Refused at why) = codes " refused " ++ (decimal (reason_number why) ++ (at_text at ++ reason_ending why))

abbrev pub verdict_fields : Verdict → List Field
verdict_fields Verified = answer (codes "verified") ∷ []
verdict_fields NoCode = answer (codes "no code") ∷ []
verdict_fields (Refused at why) =
    answer (codes "refused") ∷ (codes "number", number (reason_number why)) ∷ (codes "at", number at)
    ∷ reason_fields why

abbrev pub verdict_line : Form → MethodVerdict → List ℕ
verdict_line Plain r =
    codes "method " ++ (name_text r.name.bytes.now
    ++ (codes " " ++ (name_text r.descriptor.bytes.now ++ (verdict_text r.verdict ++ codes "\n"))))
verdict_line Json r =
    object_line (kind (codes "method") ∷ (codes "name", name r.name.bytes.now)
    ∷ (codes "descriptor", name r.descriptor.bytes.now) ∷ verdict_fields r.verdict)

-- the object of a method and its verdict, with this text after its fields
abbrev pub verdict_object : MethodVerdict → List ℕ → List ℕ
verdict_object r rest =
    object_then (kind (codes "method"))
    ((codes "name", name r.name.bytes.now) ∷ (codes "descriptor", name r.descriptor.bytes.now)
    ∷ verdict_fields r.verdict) rest

-- the text of `explain` about a method with this code and these frames
abbrev pub explained : Form → List Entry → MethodVerdict → Option CodeBody → FramesFact → List ℕ
explained Plain pool r body x = explanation pool body (verdict_line Plain r) r.verdict x
explained Json pool r body x = explanation_object pool body (verdict_object r) r.verdict x

abbrev pub is_refusal : Verdict → Bool
is_refusal Verified = false
is_refusal NoCode = false
is_refusal (Refused at why) = true

-- 1 where a method is refused
abbrev pub report_status : List MethodVerdict → ℕ
report_status rs = if list_any (λ r. is_refusal r.verdict) rs then 1 else 0

-- ---- in the manner of `verify`, or in that of `explain`, which has the sentence on its number after each refusal

-- the text of the part of a file that a refusal is about: of the part of the class that breaks a rule, and of the
-- attribute of it that does; or of the part in which a fault of the bytes lies
abbrev pub IsPart : File → FileFault → List ℕ → Type 0
IsPart file (Malformed rule place) text = (c : Class) × IsDecoded file.read c
    × (text ≡ part_lines c place ++ attribute_line c rule place)
IsPart file (NoClass e) text = text ≡ option_map_or file_part_lines (fault_part file.held e) []
IsPart file (Unread e) text = text ≡ option_map_or file_part_lines (fault_part file.held e) []
IsPart file r text = text ≡ []

-- the lines of `explain` about a file that is refused with this line
abbrev pub IsExplained : File → FileFault → List ℕ → List ℕ → Type 0
IsExplained file r line text = (part : List ℕ) × IsPart file r part
    × (text ≡ line ++ (file_sentence_line file.versions r ++ part))

-- the fields of this part
abbrev pub ArePartFields : File → FileFault → List Field → Type 0
ArePartFields file (Malformed rule place) fields = (c : Class) × IsDecoded file.read c
    × (fields ≡ part_fields c place ++ attribute_fields c rule place)
ArePartFields file (NoClass e) fields = fields ≡ option_map_or file_part_fields (fault_part file.held e) []
ArePartFields file (Unread e) fields = fields ≡ option_map_or file_part_fields (fault_part file.held e) []
ArePartFields file r fields = fields ≡ []

-- the object of `explain` about a file that is refused, whose first fields are written by `begun`
abbrev pub IsExplainedObject : File → FileFault → (List ℕ → List ℕ) → List ℕ → Type 0
IsExplainedObject file r begun text = (part : List Field) × ArePartFields file r part
    × (text ≡ begun (fields_then (file_sentence_fields file.versions r) (fields_behind part)))

-- the text about a file that is refused, by its line in each form and its object of JSON
abbrev pub IsTold : Manner → File → FileFault → (Form → List ℕ) → (List ℕ → List ℕ) → List ℕ → Type 0
IsTold (Told form) file r line object text = text ≡ line form
IsTold (Explained Plain) file r line object text = IsExplained file r (line Plain) text
IsTold (Explained Json) file r line object text = IsExplainedObject file r object text

abbrev pub hierarchy_told : Manner → HierarchyFault → List ℕ
hierarchy_told (Told form) f = hierarchy_refusal form f
hierarchy_told (Explained Plain) f = hierarchy_refusal Plain f ++ sentence_line (number_of f)
hierarchy_told (Explained Json) f = hierarchy_object f (fields_behind (sentence_fields (number_of f)))

abbrev pub final_told : Manner → Class → FinalRule → List ℕ
final_told (Told form) c rule = final_refusal form rule
final_told (Explained Plain) c rule =
    final_refusal Plain rule ++ (sentence_line (final_rule_number rule) ++ final_part_lines c rule)
final_told (Explained Json) c rule =
    object_then (kind (codes "class"))
    (answer (codes "refused") ∷ final_rule_fields rule)
    (fields_then (sentence_fields (final_rule_number rule)) (fields_behind (final_part_fields c rule)))

-- the text about the methods of a class; `explain` writes only about those that are refused, with the frames at the
-- instructions at which they are
abbrev pub IsReportTold : Manner → List ClassFact → JudgedClass → List MethodVerdict → List ℕ → Type 0
IsReportTold (Told form) classes c rs text = text ≡ flat_map (verdict_line form) rs
IsReportTold (Explained form) classes c rs text =
    (xs : List FramesAt) × AreFramed classes c rs xs
    × (text ≡ explanations (explained form c.file.constant_pool) c.file.methods rs xs)

-- ---- the answer

-- the answer about a class that the hierarchy has as it is: the verdicts on its methods
abbrev pub ReportSays : Manner → List ClassFact → JudgedClass → List ℕ → ℕ → Type 0
ReportSays manner classes c text status = (rs : List MethodVerdict) × IsReport classes c rs
    × IsReportTold manner classes c rs text × (status ≡ report_status rs)

-- The answer about a class in a hierarchy: it breaks a rule on final classes and methods, or there are verdicts on its
-- methods.
abbrev pub ClassSays : Manner → List ClassFact → JudgedClass → List ℕ → ℕ → Type 0
ClassSays manner classes c text status =
    ((rule : FinalRule) × (final_rule classes (summary_of c.file) ≡ Some rule) × (text ≡ final_told manner c.file rule)
    × (status ≡ 1))
    ⊎ ((final_rule classes (summary_of c.file) ≡ None) × ReportSays manner classes c text status)

-- The answer about a class and its known classes: why they are no hierarchy, or the answer about the class in it.
abbrev pub HierarchySays : Manner → List ClassFact → JudgedClass → List ℕ → ℕ → Type 0
HierarchySays manner classes c text status =
    ((f : HierarchyFault) × (f ≢ OutOfMemory) × FaultOf classes f × (text ≡ hierarchy_told manner f) × (status ≡ 1))
    ⊎ (IsHierarchy classes × ClassSays manner classes c text status)

-- The answer about a class and its known files: the refusal of the first known file that is refused, or, where none is,
-- the answer about all.
abbrev pub KnownSays : Manner → JudgedClass → List File → List ℕ → ℕ → Type 0
KnownSays manner c known text status =
    ((i : ℕ) × (r : FileFault) × IsFirstRefused (reads_of known) i r
    × (file : File) × (slice_get known i ≡ Some file)
    × IsTold manner file r (λ form. known_refusal form (i + 1) r) (known_object (i + 1) r) text
    × (status ≡ refusal_status r))
    ⊎ ((cs : List Class) × AreFormed (reads_of known) cs
    × HierarchySays manner (map summary_of (c.file ∷ cs)) c text status)

-- the answer to `verify` and to `explain`, by a profile: why the file is not a well-formed class, or the answer
-- about its class
abbrev pub VerifySays : Manner → Profile → File → List File → List ℕ → ℕ → Type 0
VerifySays manner profile file known text status =
    ((r : FileFault) × IsRefused file.read r
    × IsTold manner file r (λ form. class_refusal form r) (class_object r) text × (status ≡ refusal_status r))
    ⊎ ((c : Class) × IsFormed file.read c × KnownSays manner (judged profile c) known text status)

-- the answer about the class in a file and the files that go with it; where the file is refused, about it alone
abbrev pub BesideSays : Manner → Profile → File → (Class → List File) → List ℕ → ℕ → Type 0
BesideSays manner profile file beside text status = (known : List File) × GoWith file.read beside known
    × VerifySays manner profile file known text status
