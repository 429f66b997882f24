-- Words of the code's own steps from classes to verdicts: nothing that a reader must believe rests on them.
use Rattle.std.specs.Prelude.{◌≡◌, ◌≢◌, ℕ, Bool, ◌+◌, List, ◌∷◌, ◌++◌, map, Some, None, Result, Ok, Err}
use Rattle.classfile.specs.Values.{Class}
use Rattle.classfile.specs.Methods.{JudgedClass}
use Rattle.hierarchy.specs.Class.{ClassFact}
use Rattle.hierarchy.specs.declared.fault.HierarchyFault.TheVariants as hierarchies
use Rattle.hierarchy.specs.Rules.{IsHierarchy}
use Rattle.hierarchy.specs.Faults.{FaultOf}
use Rattle.hierarchy.specs.ClassSummary.{summary_of}
use Rattle.verify.specs.declared.explanation.Explained.{Explained}
use Rattle.verify.specs.declared.known_classes.AmongFault.{AmongFault}
use Rattle.verify.specs.declared.known_classes.AmongFault.TheVariants.{OutOfMemory, Refused, KnownRefused, NoHierarchy, Final}
use Rattle.verify.specs.Files.{Read, AreFormed, IsFirstRefused}
use Rattle.verify.specs.Explaining.{IsExplained}
use Rattle.verify.specs.FinalRules.{final_rule}

-- The summaries of these files stand after those that were there; or the file of this number, from 1 on, is the first
-- that is refused.
abbrev pub Adds : List Read → List ClassFact → List ClassFact → Result Unit AmongFault → Type 0
Adds known old new (Ok done) = (cs : List Class) × AreFormed known cs × (new ≡ old ++ map summary_of cs)
Adds known old new (Err OutOfMemory) = Unit {0}
Adds known old new (Err (KnownRefused number fault)) = (i : ℕ) × (number ≡ i + 1) × IsFirstRefused known i fault
Adds known old new (Err fault) = ⊥

-- the first is the summary of the class
abbrev pub BeginWith : List ClassFact → JudgedClass → Type 0
BeginWith classes c = (others : List ClassFact) × (classes ≡ summary_of c.file ∷ others)

-- the verdicts on the methods of a class, and the frames where they are asked for, under these summaries
abbrev pub ExplainsSummaries : Bool → List ClassFact → JudgedClass → Result Explained AmongFault → Type 0
ExplainsSummaries framed classes c (Ok x) = IsHierarchy classes × (final_rule classes (summary_of c.file) ≡ None)
    × IsExplained framed classes c x
ExplainsSummaries framed classes c (Err OutOfMemory) = Unit {0}
ExplainsSummaries framed classes c (Err (NoHierarchy fault)) = (fault ≢ hierarchies.OutOfMemory) × FaultOf classes fault
ExplainsSummaries framed classes c (Err (Final rule)) = IsHierarchy classes
    × (final_rule classes (summary_of c.file) ≡ Some rule)
ExplainsSummaries framed classes c (Err fault) = ⊥

-- the verdicts, and the frames where they are asked for, of a class that is well formed, among the classes in the known
-- files
abbrev pub ExplainsFormed : Bool → JudgedClass → List Read → Result Explained AmongFault → Type 0
ExplainsFormed framed c known (Ok x) =
    (cs : List Class) × AreFormed known cs × IsHierarchy (map summary_of (c.file ∷ cs))
    × (final_rule (map summary_of (c.file ∷ cs)) (summary_of c.file) ≡ None)
    × IsExplained framed (map summary_of (c.file ∷ cs)) c x
ExplainsFormed framed c known (Err OutOfMemory) = Unit {0}
ExplainsFormed framed c known (Err (KnownRefused number fault)) = (i : ℕ) × (number ≡ i + 1)
    × IsFirstRefused known i fault
ExplainsFormed framed c known (Err (NoHierarchy fault)) =
    (cs : List Class) × AreFormed known cs × (fault ≢ hierarchies.OutOfMemory)
    × FaultOf (map summary_of (c.file ∷ cs)) fault
ExplainsFormed framed c known (Err (Final rule)) =
    (cs : List Class) × AreFormed known cs × IsHierarchy (map summary_of (c.file ∷ cs))
    × (final_rule (map summary_of (c.file ∷ cs)) (summary_of c.file) ≡ Some rule)
ExplainsFormed framed c known (Err (Refused fault)) = ⊥
