-- The report on a class among the classes that it may refer to, or its fault (JVMS 4.10.1).
use Rattle.std.specs.Prelude.{◌≡◌, ◌≢◌, ℕ, true, ◌+◌, List, ◌∷◌, map, Some, None, Result, Ok, Err}
use Rattle.classfile.specs.Values.{Class}
use Rattle.classfile.specs.Methods.{JudgedClass}
use Rattle.classfile.specs.CodeMethods.{judged}
use Rattle.classfile.specs.declared.profile.Profile.{Profile}
use Rattle.hierarchy.specs.declared.fault.HierarchyFault.TheVariants as hierarchies
use Rattle.hierarchy.specs.Class.{ClassFact}
use Rattle.hierarchy.specs.Rules.{IsHierarchy}
use Rattle.hierarchy.specs.Faults.{FaultOf}
use Rattle.hierarchy.specs.ClassSummary.{summary_of}
use Rattle.verify.specs.declared.report.Report.{Report}
use Rattle.verify.specs.declared.explanation.Explained.{Explained}
use Rattle.verify.specs.declared.known_classes.AmongFault.{AmongFault}
use Rattle.verify.specs.declared.known_classes.AmongFault.TheVariants.{OutOfMemory, Refused, KnownRefused, NoHierarchy, Final}
use Rattle.verify.specs.Files.{Read, IsFormed, IsRefused, AreFormed, IsFirstRefused}
use Rattle.verify.specs.Reports.{IsReport}
use Rattle.verify.specs.Explaining.{IsExplained}
use Rattle.verify.specs.FinalRules.{final_rule}

-- The first of these that applies: the class is refused; a known one is, by its number from 1 on, the first of those
-- that are; they are no hierarchy; the class breaks a rule on final classes and methods; and otherwise what is returned
-- of the class in the hierarchy, by a profile.
abbrev pub AnswersAmong : {R : Type 0} → (List ClassFact → JudgedClass → R → Type 0) → Profile → Read → List Read
    → Result R AmongFault → Type 0
AnswersAmong IsAnswer profile read known (Ok x) =
    (c : Class) × (cs : List Class) × IsFormed read c × AreFormed known cs
    × IsHierarchy (map summary_of (c ∷ cs)) × (final_rule (map summary_of (c ∷ cs)) (summary_of c) ≡ None)
    × IsAnswer (map summary_of (c ∷ cs)) (judged profile c) x
AnswersAmong IsAnswer profile read known (Err OutOfMemory) = Unit {0}
AnswersAmong IsAnswer profile read known (Err (Refused fault)) = IsRefused read fault
AnswersAmong IsAnswer profile read known (Err (KnownRefused number fault)) =
    (c : Class) × (i : ℕ) × IsFormed read c × (number ≡ i + 1) × IsFirstRefused known i fault
AnswersAmong IsAnswer profile read known (Err (NoHierarchy fault)) =
    (c : Class) × (cs : List Class) × IsFormed read c × AreFormed known cs
    × (fault ≢ hierarchies.OutOfMemory) × FaultOf (map summary_of (c ∷ cs)) fault
AnswersAmong IsAnswer profile read known (Err (Final rule)) =
    (c : Class) × (cs : List Class) × IsFormed read c × AreFormed known cs
    × IsHierarchy (map summary_of (c ∷ cs)) × (final_rule (map summary_of (c ∷ cs)) (summary_of c) ≡ Some rule)

-- the verdicts on the methods of the class
abbrev pub ReportsAmong : Profile → Read → List Read → Result Report AmongFault → Type 0
ReportsAmong = AnswersAmong (λ classes c report. IsReport classes c report.methods.items)

-- and of each that is refused the frames at the instruction at which it is
abbrev pub ExplainsAmong : Profile → Read → List Read → Result Explained AmongFault → Type 0
ExplainsAmong = AnswersAmong (IsExplained true)
