-- A method has one verdict, a class one report, and each method the same frames at what refuses it.
use Rattle.std.specs.Prelude.{◌≡◌, ℕ, List, length, slice_get, Some, Ok}
use Rattle.classfile.specs.Methods.{JudgedClass}
use Rattle.hierarchy.specs.Class.{ClassFact}
use Rattle.rules.specs.Reasons.{reason_number, reason_view}
use Rattle.verify.specs.declared.verdict.Verdict.{Verdict}
use Rattle.verify.specs.declared.verdict.Verdict.TheVariants.{Verified, NoCode, Refused}
use Rattle.verify.specs.declared.report.MethodVerdict.{MethodVerdict}
use Rattle.verify.specs.Answers.{Answers}
use Rattle.verify.specs.Reports.{IsReport}
use Rattle.verify.specs.declared.frames_at.FramesAt.{FramesAt}
use Rattle.verify.specs.Coming.{frames_view, AreFramed}

-- two verdicts say the same: of refusals the offset, the number, the missing class by its name, and the fault after 78
-- and 79
abbrev pub AreSameVerdict : Verdict → Verdict → Type 0
AreSameVerdict Verified Verified = Unit {0}
AreSameVerdict NoCode NoCode = Unit {0}
AreSameVerdict (Refused at why) (Refused there other) =
    (at ≡ there) × (reason_number why ≡ reason_number other) × (reason_view why ≡ reason_view other)
AreSameVerdict _ _ = ⊥

-- the class need not be one that is well formed
abbrev pub OneVerdict : Type 0
OneVerdict =
    (classes : List ClassFact) (c : JudgedClass) (number : ℕ) (verdict other : Verdict)
    → Answers classes c number (Ok verdict) → Answers classes c number (Ok other) → AreSameVerdict verdict other

-- two answers say the same of a method
pub record IsSameLine (r other : MethodVerdict) : Type 0 where
  pub name : r.name.bytes.now ≡ other.name.bytes.now
  pub descriptor : r.descriptor.bytes.now ≡ other.descriptor.bytes.now
  pub verdict : AreSameVerdict r.verdict other.verdict

pub record IsSameReport (rs others : List MethodVerdict) : Type 0 where
  pub all : length rs ≡ length others
  pub each : (number : ℕ) (r other : MethodVerdict) → slice_get rs number ≡ Some r
      → slice_get others number ≡ Some other → IsSameLine r other

abbrev pub OneReport : Type 0
OneReport =
    (classes : List ClassFact) (c : JudgedClass) (rs others : List MethodVerdict) → IsReport classes c rs
    → IsReport classes c others
    → IsSameReport rs others

-- two lists of frames are the same, method by method
pub record AreSameFrames (xs others : List FramesAt) : Type 0 where
  pub all : length xs ≡ length others
  pub each : (number : ℕ) (x other : FramesAt) → slice_get xs number ≡ Some x → slice_get others number ≡ Some other
      → frames_view x ≡ frames_view other

abbrev pub OneFrames : Type 0
OneFrames =
    (classes : List ClassFact) (c : JudgedClass) (rs others : List MethodVerdict) (xs ys : List FramesAt)
    → IsSameReport rs others
    → AreFramed classes c rs xs → AreFramed classes c others ys → AreSameFrames xs ys
