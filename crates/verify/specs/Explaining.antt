-- The report on a class, with the frames at the instructions at which its methods are refused.
use Rattle.std.specs.Prelude.{Bool, true, false, List}
use Rattle.classfile.specs.Methods.{JudgedClass}
use Rattle.hierarchy.specs.Class.{ClassFact}
use Rattle.verify.specs.declared.frames_at.FramesAt.{FramesAt}
use Rattle.verify.specs.declared.report.MethodVerdict.{MethodVerdict}
use Rattle.verify.specs.declared.explanation.Explained.{Explained}
use Rattle.verify.specs.Reports.{IsReport}
use Rattle.verify.specs.Coming.{AreFramed}

-- the frames, where they are asked for
abbrev pub AreFramedIf : Bool → List ClassFact → JudgedClass → List MethodVerdict → List FramesAt → Type 0
AreFramedIf true classes c rs xs = AreFramed classes c rs xs
AreFramedIf false classes c rs xs = Unit {0}

abbrev pub IsExplained : Bool → List ClassFact → JudgedClass → Explained → Type 0
IsExplained framed classes c x = IsReport classes c x.report.methods.items
    × AreFramedIf framed classes c x.report.methods.items x.frames.items
