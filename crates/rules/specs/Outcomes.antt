-- Words of the contracts of this crate's calls: what an answer says.
use Rattle.std.specs.Prelude.{◌≡◌, ◌⊎◌, List, [], ◌∷◌, ◌++◌, false, Option, Some, None, Result, MatchResult}
use Rattle.classfile.specs.Methods.{Method}
use Rattle.hierarchy.specs.Class.{ClassFact}
use Rattle.hierarchy.specs.Answer.{Outcome}
use Rattle.names.specs.Descriptors.{FieldDescriptor, primitive}
use Rattle.insn.specs.declared.kinds.Kind.{Kind}
use Rattle.insn.specs.Meanings.{Act}
use Rattle.insn.specs.Kinds.{computed_as}
use Rattle.insn.specs.OperandStacks.{beneath}
use Rattle.frames.specs.VerificationType.{VerificationType}
use Rattle.frames.specs.FrameFact.{FrameFact}
use Rattle.frames.specs.Conditions.{Conditions, reason, least, missing_if}
use Rattle.rules.specs.ReasonNumbers.{stack_over}
use Rattle.rules.specs.declared.reason.Reason.{Reason}
use Rattle.rules.specs.declared.reason.Reason.TheVariants.{OutOfMemory}
use Rattle.rules.specs.TypingRules.{ExpectedType}
use Rattle.rules.specs.After.{with_stack}
use Rattle.rules.specs.Rules.{is_short, operands, is_too_wide}
use Rattle.rules.specs.Reasons.{reason_view}

-- Done exactly where no condition holds, and then the frame is the one that is wanted; otherwise the least reason, or
-- that memory ran out.
pub record Done (cs : Conditions) (wanted now : FrameFact) (r : Result Unit Reason) : Type 0 where
  pub outcome : MatchResult r (λ _. (least cs ≡ None) × (now ≡ wanted))
      (λ e. (e ≡ OutOfMemory) ⊎ (least cs ≡ Some (reason_view e)))

-- none of the conditions holds; or this is the least reason, or memory ran out
pub record Judges (cs : Conditions) (r : Result Unit Reason) : Type 0 where
  pub outcome : MatchResult r (λ _. least cs ≡ None) (λ e. (e ≡ OutOfMemory) ⊎ (least cs ≡ Some (reason_view e)))

-- the stack has enough operands, this is the answer about their types, and this is the stack beneath them
pub record Took (classes : List ClassFact) (expected_types : List ExpectedType) (stack : List VerificationType)
    (answer : Outcome) (left : List VerificationType) : Type 0 where
  pub enough : is_short expected_types stack ≡ false
  pub answer_is : operands classes expected_types stack ≡ answer
  pub left_is : left ≡ beneath expected_types stack

-- a frame has enough operands on its stack, with this answer, and is left without them
pub record TookOff (classes : List ClassFact) (expected_types : List ExpectedType) (f : FrameFact) (answer : Outcome)
    (left : FrameFact) : Type 0 where
  pub enough : is_short expected_types f.stack ≡ false
  pub answer_is : operands classes expected_types f.stack ≡ answer
  pub left_is : left ≡ with_stack f (beneath expected_types f.stack)

abbrev pub pushed : List VerificationType → FrameFact → FrameFact
pushed types f = with_stack f (types ++ f.stack)

-- the conditions on the frame after: its stack is too wide, or a class is missing
abbrev pub settled : Method Act → Outcome → FrameFact → Conditions
settled m answer f = (reason stack_over, is_too_wide m f) ∷ missing_if answer ∷ []

-- the kind of number that a result of the type is
abbrev pub result_kind : Option FieldDescriptor → Option Kind
result_kind (Some (primitive p)) = Some (computed_as p)
result_kind _ = None
