-- Operands of calls.
use Rattle.std.specs.Prelude.{◌≡◌, ℕ, List, [], ◌∷◌, Option, Some, None}
use Rattle.names.specs.ReferenceTypes.{ReferenceType}
use Rattle.hierarchy.specs.Answer.{Outcome}
use Rattle.frames.specs.VerificationType.{VerificationType}
use Rattle.frames.specs.Assignable.{type_answer}
use Rattle.frames.specs.FrameAssignable.{both}
use Rattle.type_numbers.specs.Decoding.{type_by}
use Rattle.method_frames.specs.NumberedFrames.{NumberedFrames}
use Rattle.rules.specs.TypingRules.{ExpectedType, assignable_to}
use Rattle.rules.specs.Outcomes.{pushed}
use Rattle.numbered_rules.specs.RunningFrame.{held}

-- the receiver of a call, beneath its arguments
abbrev pub receivers : Option ReferenceType → List ExpectedType
receivers None = []
receivers (Some class) = assignable_to class ∷ []

-- one item was taken off the stack, and with the answers before it this is the answer, where the type of a number is
-- wanted
pub record IsOneTaken (old new : NumberedFrames) (wanted : ℕ) (before answer : Outcome) : Type 0 where
  pub type : VerificationType
  pub was : held old ≡ pushed (type ∷ []) (held new)
  pub told : answer ≡ both before (type_answer old.types.classes type (type_by old.types wanted))
