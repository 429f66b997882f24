-- How much an entry of a stack map leaves, and what its fault tells (JVMS 4.7.4).
use Rattle.std.specs.Prelude.{◌≡◌, List, length, Option, Some, None}
use Rattle.frames.specs.VerificationType.{VerificationType}
use Rattle.frames.specs.Slots.{units_of, in_locals}
use Rattle.frames.specs.Conditions.{Reason, reason}
use Rattle.frames.specs.FrameReasons.{frame_fault_number}
use Rattle.frames.specs.declared.frame_fault.FrameFault.{FrameFault}
use Rattle.frames.specs.declared.refusing.Sizes.{Sizes}

-- the locals in front of an entry, those that it leaves, and its stack have these sizes
pub record HaveSizes (before locals stack : List VerificationType) (sizes : Sizes) : Type 0 where
  pub before_is : length before ≡ sizes.before
  pub locals_are : length (in_locals locals) ≡ sizes.locals
  pub stack_is : units_of stack ≡ sizes.stack

-- the reason that a fault tells, if there is one
abbrev pub told : Option FrameFault → Option Reason
told None = None
told (Some fault) = Some (reason (frame_fault_number fault))
