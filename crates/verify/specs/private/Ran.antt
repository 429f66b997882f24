-- The instruction at which a method is refused: how it comes out of its rule, and the detail at fault that is about the
-- frame before it.
use Rattle.std.specs.Prelude.{◌≡◌, ℕ, true, false, is_none, nat_eq, List, Option, None, Some, if◌then◌else◌}
use Rattle.classfile.specs.Methods.{Method}
use Rattle.hierarchy.specs.Class.{ClassFact}
use Rattle.insn.specs.Meanings.{Act}
use Rattle.frames.specs.Conditions.{Reason}
use Rattle.frames.specs.FrameFact.{FrameFact}
use Rattle.frames.specs.declared.difference.Sought.TheVariants.{No}
use Rattle.rules.specs.ReasonNumbers.{not_assignable_at_target, handler_not_assignable}
use Rattle.rules.specs.TypingRules.{TypingRule}
use Rattle.verify.specs.TypeSafety.{Frames}
use Rattle.verify.specs.Details.{DetailFact, is_of_taken, is_class_asked, unmet_if, target_if, handler_if}
use Rattle.verify.specs.declared.detail.Ran.{Ran}
use Rattle.verify.specs.declared.detail.Ran.TheVariants.{Passed, Refused, LacksClass}

-- it came out so, by the least reason against it
abbrev pub IsBy : Ran → Option Reason → Type 0
IsBy Passed why = why ≡ None
IsBy Refused why = (is_none why ≡ false) × (is_class_asked why ≡ false)
IsBy LacksClass why = (is_none why ≡ false) × (is_class_asked why ≡ true)

-- and now the frame is the one after the instruction, where the rule does not refuse it
pub record HasRun (ran : Ran) (why : Option Reason) (after now : FrameFact) : Type 0 where
  pub by : IsBy ran why
  pub frame : ran ≡ Passed → now ≡ after

-- this is the frame, if there is one
abbrev pub IsIf : Option FrameFact → FrameFact → Type 0
IsIf None f = Unit {0}
IsIf (Some g) f = g ≡ f

-- what is wrong with the frame before the instruction, by the number of the reason
abbrev pub detail_in : List ClassFact → Method Act → Frames → ℕ → Act → TypingRule → ℕ → Option FrameFact
    → Option DetailFact
detail_in classes m frames at act p n before =
    if is_of_taken n then unmet_if classes m p before
    else if nat_eq n not_assignable_at_target then target_if classes m frames at act p No before
    else if nat_eq n handler_not_assignable then handler_if classes m frames at act p No before
    else None
