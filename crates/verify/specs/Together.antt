-- The reports on the classes in files, which are in play together; or why there are none.
use Rattle.std.specs.Prelude.{◌≡◌, ◌≢◌, ℕ, ◌+◌, List, map}
use Rattle.classfile.specs.Values.{Class}
use Rattle.classfile.specs.Methods.{JudgedClass}
use Rattle.classfile.specs.CodeMethods.{judged}
use Rattle.classfile.specs.declared.profile.Profile.{Profile}
use Rattle.hierarchy.specs.Class.{ClassFact}
use Rattle.hierarchy.specs.declared.fault.HierarchyFault.TheVariants as hierarchies
use Rattle.hierarchy.specs.Rules.{IsHierarchy}
use Rattle.hierarchy.specs.Faults.{FaultOf}
use Rattle.hierarchy.specs.ClassSummary.{summary_of}
use Rattle.verify.specs.declared.report.Report.{Report}
use Rattle.verify.specs.declared.classes_in_play.TogetherFault.{TogetherFault}
use Rattle.verify.specs.declared.classes_in_play.TogetherFault.TheVariants.{OutOfMemory, Refused, NoHierarchy, Broken, NotVerified}
use Rattle.verify.specs.Files.{Read, AreFormed, IsFirstRefused}
use Rattle.verify.specs.Plays.{HasRefused, Breaks, ArePlayed, BreaksFirst}
use Rattle.verify.specs.ClassRunSafety.{ArePlayable}

-- the summaries of classes
abbrev pub facts_in : List JudgedClass → List ClassFact
facts_in cs = map (λ c. summary_of c.file) cs

-- the classes are a hierarchy, and in it they have these reports
abbrev pub HaveReports : List JudgedClass → List Report → Type 0
HaveReports cs reports = IsHierarchy (facts_in cs) × ArePlayed (facts_in cs) cs reports

-- the files are classes that are well formed, and have these reports by a profile
abbrev pub ReportsTogether : Profile → List Read → List Report → Type 0
ReportsTogether profile reads reports = (cs : List Class) × AreFormed reads cs
    × HaveReports (map (judged profile) cs) reports

-- no run through the methods of the classes meets a fault
abbrev pub ArePlayableFiles : Profile → List Read → Type 0
ArePlayableFiles profile reads =
    (cs : List Class) × AreFormed reads cs × ArePlayable (facts_in (map (judged profile) cs)) (map (judged profile) cs)

-- the classes are a hierarchy, and the one of this number, from 1 on, is the first that breaks a rule, in this way
abbrev pub BreaksAt : List JudgedClass → ℕ → (ℕ → JudgedClass → Type 0) → Type 0
BreaksAt cs number Way =
    IsHierarchy (facts_in cs) × ((place : ℕ) × (number ≡ place + 1) × BreaksFirst (facts_in cs) cs place (Way place))

-- why the classes have no reports
abbrev pub HaveNone : List JudgedClass → TogetherFault → Type 0
HaveNone cs OutOfMemory = Unit {0}
HaveNone cs (Refused number fault) = ⊥
HaveNone cs (NoHierarchy fault) = (fault ≢ hierarchies.OutOfMemory) × FaultOf (facts_in cs) fault
HaveNone cs (Broken number rule) = BreaksAt cs number (λ place c. Breaks (facts_in cs) cs place c rule)
HaveNone cs (NotVerified number method) =
    BreaksAt cs number (λ place c. (n : ℕ) × HasRefused (facts_in cs) cs place c n method)

-- The first of these that applies: a file is refused, by its number from 1 on; the classes are no hierarchy; or one
-- breaks a rule.
abbrev pub NotTogether : Profile → List Read → TogetherFault → Type 0
NotTogether profile reads OutOfMemory = Unit {0}
NotTogether profile reads (Refused number fault) = (i : ℕ) × (number ≡ i + 1) × IsFirstRefused reads i fault
NotTogether profile reads fault = (cs : List Class) × AreFormed reads cs × HaveNone (map (judged profile) cs) fault
