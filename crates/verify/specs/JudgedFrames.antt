-- The frames at the instruction at which code is refused are those by which it is (JVMS 4.10.1.6).
use Rattle.std.specs.Prelude.{◌≡◌, ◌⊎◌, ℕ, true, List, Option, Some, None}
use Rattle.classfile.specs.Methods.{Method}
use Rattle.hierarchy.specs.Class.{ClassFact}
use Rattle.insn.specs.Meanings.{Act}
use Rattle.insn.specs.Offsets.{at_offset, next_offset, StartsRise}
use Rattle.frames.specs.FrameFact.{FrameFact}
use Rattle.frames.specs.Conditions.{Reason, reason, least}
use Rattle.rules.specs.ReasonNumbers.{no_frame}
use Rattle.rules.specs.Table.{TypingRules}
use Rattle.verify.specs.InitialFrames.{initial_frame}
use Rattle.verify.specs.TypeSafety.{Frames}
use Rattle.verify.specs.Verdict.{refused, at_conditions, entry, code_judged}
use Rattle.verify.specs.Coming.{FramesFact, before, met}

-- the reason against a frame that comes where another is declared, or against that none comes and none is declared
abbrev pub entry_by : List ClassFact → Option FrameFact → Option FrameFact → Option Reason
entry_by classes (Some f) declared = entry classes true f declared
entry_by classes None None = Some (reason no_frame)
entry_by classes None (Some declared) = None

-- An instruction begins there, and this is the reason against the frame that comes to it; or there is a frame before
-- it, and of what is asked of the instruction in that frame this is the least reason.
pub record IsJudgedBy (typing_rule : TypingRules) (classes : List ClassFact) (m : Method Act) (frames : Frames)
    (code : List (ℕ × Act)) (at : ℕ) (why : Reason) (x : FramesFact) : Type 0 where
  pub act : Act
  pub here : at_offset code at ≡ Some act
  pub told :
      (entry_by classes x.coming x.declared ≡ Some why)
      ⊎ ((f : FrameFact) × (before x.coming x.declared ≡ Some f)
      × (least (at_conditions classes m frames at act (typing_rule m act) (next_offset code at) f) ≡ Some why))

-- whatever the number of the reason is by which is told what is wrong
abbrev pub FramesAreJudged : Type 0
FramesAreJudged =
    (typing_rule : TypingRules) (classes : List ClassFact) (m : Method Act) (frames : Frames) → StartsRise 0 m.code
    → (number at : ℕ) (why : Reason)
    → code_judged typing_rule classes m frames ≡ refused at why
    → IsJudgedBy typing_rule classes m frames m.code at why
    (met typing_rule classes m frames number m.code (Some (initial_frame m)) at)
