-- The answers about many files, under one hierarchy of the classes in these files and the known ones (JVMS 4.10.1).
use Rattle.std.specs.Prelude.{◌≡◌, ◌≢◌, ◌⊎◌, ℕ, List, [], ◌∷◌, ◌++◌, is_some, if◌then◌else◌, Result, Ok, Err}
use Rattle.classfile.specs.Values.{Class}
use Rattle.classfile.specs.CodeMethods.{judged}
use Rattle.classfile.specs.declared.profile.Profile.{Profile}
use Rattle.hierarchy.specs.declared.fault.HierarchyFault.TheVariants as hierarchies
use Rattle.hierarchy.specs.Class.{ClassFact, class_of}
use Rattle.hierarchy.specs.Rules.{IsHierarchy}
use Rattle.hierarchy.specs.Faults.{FaultOf}
use Rattle.hierarchy.specs.ClassSummary.{summary_of}
use Rattle.verify.specs.declared.files.FileFault.{FileFault}
use Rattle.verify.specs.declared.report.Report.{Report}
use Rattle.verify.specs.declared.report.ClassFault.{ClassFault}
use Rattle.verify.specs.declared.report.ClassFault.TheVariants as classes
use Rattle.verify.specs.declared.judgements.Judgement.{Judgement}
use Rattle.verify.specs.declared.judgements.Judgement.TheVariants.{Reported, Refused, NotInHierarchy, Final}
use Rattle.verify.specs.declared.judgements.EachFault.{EachFault}
use Rattle.verify.specs.declared.judgements.EachFault.TheVariants.{OutOfMemory, NoHierarchy}
use Rattle.verify.specs.Files.{Read, IsFormed, IsRefused}
use Rattle.verify.specs.Reports.{Reports}
use Rattle.verify.specs.Standing.{standing}

-- ---- the classes of files

-- one class more, unless its name is there
abbrev pub with_class : List ClassFact → ClassFact → List ClassFact
with_class old c = if is_some (class_of old c.name) then old else old ++ c ∷ []

-- the classes with that of one more file, which is left out where it is refused
abbrev pub AddsFile : Read → List ClassFact → List ClassFact → Type 0
AddsFile read old new =
    ((r : FileFault) × IsRefused read r × (new ≡ old))
    ⊎ ((c : Class) × IsFormed read c × (new ≡ with_class old (summary_of c)))

-- the classes with those of all these files
abbrev pub AddsFiles : List Read → List ClassFact → List ClassFact → Type 0
AddsFiles [] old new = new ≡ old
AddsFiles (read ∷ reads) old new = (some : List ClassFact) × AddsFile read old some × AddsFiles reads some new

-- The classes in files, and then those in the known files. Of classes with one name the first counts.
abbrev pub AreClasses : List Read → List Read → List ClassFact → Type 0
AreClasses reads known all = (own : List ClassFact) × AddsFiles reads [] own × AddsFiles known own all

-- ---- answers

-- the answer about the class of this name in a file, by a profile and in a hierarchy
abbrev pub IsAnswered : Profile → List ClassFact → Read → List ℕ → Result Report ClassFault → Type 0
IsAnswered profile hierarchy read name answer = (c : Class) × IsFormed read c × ((summary_of c).name ≡ name)
    × Reports hierarchy (judged profile c) answer

-- the answer about one file: the file is refused; or the hierarchy does not have its class (80); or the class breaks a
-- rule on final classes and methods (81, 85); or there are verdicts on its methods
abbrev pub IsJudged : Profile → List ClassFact → Read → Judgement → Type 0
IsJudged profile hierarchy read (Refused fault) = IsRefused read fault
IsJudged profile hierarchy read (NotInHierarchy name) =
    IsAnswered profile hierarchy read name.now (Err classes.NotInHierarchy)
IsJudged profile hierarchy read (Final name rule) =
    IsAnswered profile hierarchy read name.now (Err (classes.Final rule))
IsJudged profile hierarchy read (Reported name report) = IsAnswered profile hierarchy read name.now (Ok report)

-- the answers about these files
abbrev pub AreJudged : Profile → List ClassFact → List Read → List Judgement → Type 0
AreJudged profile hierarchy [] [] = Unit {0}
AreJudged profile hierarchy (read ∷ reads) (j ∷ js) = IsJudged profile hierarchy read j
    × AreJudged profile hierarchy reads js
AreJudged _ _ _ _ = ⊥

-- the classes that stand are a hierarchy, and these are the answers in it
abbrev pub JudgesEach : Profile → List Read → List Read → List Judgement → Type 0
JudgesEach profile reads known judgements =
    (all : List ClassFact) × AreClasses reads known all × IsHierarchy (standing all)
    × AreJudged profile (standing all) reads judgements

-- why the classes that stand are no hierarchy
abbrev pub JudgesNone : List Read → List Read → EachFault → Type 0
JudgesNone reads known OutOfMemory = Unit {0}
JudgesNone reads known (NoHierarchy fault) =
    (all : List ClassFact) × AreClasses reads known all × (fault ≢ hierarchies.OutOfMemory)
    × FaultOf (standing all) fault
