-- How entries are judged one by one, after those before them.
use Rattle.std.specs.Prelude.{◌≡◌, ℕ, zero, suc, Bool, List, [], ◌∷◌, Option, Some, None, Result, Ok, Err}
use Rattle.pool.specs.Entries.{Entry}
use Rattle.insn.specs.Meanings.{Act}
use Rattle.frames.specs.VerificationType.{VerificationType}
use Rattle.frames.specs.FrameFact.{frame_of}
use Rattle.frames.specs.Conditions.{Reason, reason, Conditions, least}
use Rattle.frames.specs.FrameReasons.{frame_fault_number, bad_index, wrong_kind, locals_over, stack_over, chop_too_many, not_a_start, not_a_new}
use Rattle.frames.specs.StackMaps.{TypeInfo, MapEntry}
use Rattle.frames.specs.DeclaredFrames.{names_nothing, names_no_class, is_made_nowhere, locals_of, stack_of, frame_with, entry_conditions}
use Rattle.frames.specs.declared.frame.Frame.{Frame}
use Rattle.frames.specs.declared.frame_fault.FrameFault.{FrameFault}
use Rattle.frames.specs.declared.frame_fault.FrameFault.TheVariants.{OutOfMemory}
use Rattle.frames.specs.declared.refusing.Wrong.{Wrong}
use Rattle.frames.specs.declared.refusing.Wrong.TheVariants.{NamesNothing, NamesNoClass, MadeNowhere}

-- what may be wrong with a type
abbrev pub is_wrong : Wrong → List Entry → List (ℕ × Act) → TypeInfo → Bool
is_wrong NamesNothing pool code i = names_nothing pool i
is_wrong NamesNoClass pool code i = names_no_class pool i
is_wrong MadeNowhere pool code i = is_made_nowhere code i

-- the conditions on an entry, by whether each holds
abbrev pub seven_faults : (names_nothing names_no_class over_locals over_stack chops starts_nowhere made_nowhere : Bool)
    → Conditions
seven_faults a b c d e f g =
    (reason bad_index, a)
    ∷ (reason wrong_kind, b)
    ∷ (reason locals_over, c)
    ∷ (reason stack_over, d)
    ∷ (reason chop_too_many, e)
    ∷ (reason not_a_start, f)
    ∷ (reason not_a_new, g)
    ∷ []

-- ---- one entry after the others

-- the offset of the entry in front of one, by the first offset after it
abbrev pub front_of : ℕ → Option ℕ
front_of zero = None
front_of (suc n) = Some n

-- the fault tells this reason, or that memory ran out
abbrev pub IsToldBy : Option Reason → FrameFault → Type 0
IsToldBy r OutOfMemory = Unit {0}
IsToldBy r fault = r ≡ Some (reason (frame_fault_number fault))

module _ (pool : List Entry) (code : List (ℕ × Act)) (max_locals max_stack : ℕ) where
  -- the least reason against an entry at an offset, after locals of these types
  abbrev pub against : ℕ → List VerificationType → MapEntry → Option Reason
  against at ts e =
      least (entry_conditions pool code max_locals max_stack at e ts (locals_of pool ts e) (stack_of pool e))

  -- it is not refused, and this is its frame
  pub record IsDeclared (at : ℕ) (ts : List VerificationType) (e : MapEntry) (f : Frame) : Type 0 where
    pub free : against at ts e ≡ None
    pub frame : frame_of f ≡ frame_with pool code max_locals max_stack (locals_of pool ts e) (stack_of pool e)

  abbrev pub Declares : ℕ → List VerificationType → MapEntry → Result Frame FrameFault → Type 0
  Declares at ts e (Ok f) = IsDeclared at ts e f
  Declares at ts e (Err fault) = IsToldBy (against at ts e) fault
