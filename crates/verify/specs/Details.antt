-- The detail at fault where a method is refused, by the number of the reason: the comparison of types that fails, or
-- that asks for a class that is missing, or an entry of the exception table or of the stack map (JVMS 4.7.3, 4.7.4,
-- 4.10.1).
use Rattle.std.specs.Prelude.{ℕ, Bool, false, ◌||◌, nat_eq, List, Option, Some, None, option_map, Result, Ok, Err, if◌then◌else◌}
use Rattle.std.specs.Option.{option_or, option_and_then}
use Rattle.layout.specs.declared.fault.ReadFault.{ReadFault}
use Rattle.classfile.specs.Methods.{Method}
use Rattle.hierarchy.specs.Class.{ClassFact}
use Rattle.insn.specs.Meanings.{Act}
use Rattle.frames.specs.FrameFact.{FrameFact}
use Rattle.frames.specs.Differences.{DifferenceFact, difference_of}
use Rattle.frames.specs.declared.difference.Sought.{Sought}
use Rattle.frames.specs.declared.difference.Sought.TheVariants.{No, Missing}
use Rattle.frames.specs.Conditions.{Reason, least}
use Rattle.frames.specs.StackMaps.{MapEntry}
use Rattle.frames.specs.RefusedEntries.{RefusedFact, refused_entry, faulty_entry}
use Rattle.rules.specs.ReasonNumbers.{missing_operand, wrong_operand, wrong_local, not_assignable_at_target, not_assignable, bad_exception, handler_not_assignable, constructor_covered, absent_class}
use Rattle.rules.specs.TypingRules.{TypingRule}
use Rattle.rules.specs.Rules.{is_missing_class, conditions}
use Rattle.rules.specs.Protected.{member_conditions}
use Rattle.rules.specs.ExpectedTypes.{expected_types}
use Rattle.rules.specs.Unmet.{UnmetFact, first_unmet, first_unknown, unmet_of}
use Rattle.verify.specs.InitialFrames.{initial_types}
use Rattle.verify.specs.TypeSafety.{Frames}
use Rattle.verify.specs.DifferencesAt.{DifferenceAtFact, sought_difference, target_difference, handler_difference, first_refused, first_covering, difference_at_of}
use Rattle.verify.specs.Verdict.{entries_read}
use Rattle.verify.specs.declared.detail.Detail.{Detail}
use Rattle.verify.specs.declared.detail.Detail.TheVariants as details

pub data DetailFact : Type 0 where
  -- of the frame that comes to the instruction from the one that is declared there
  arriving : DifferenceFact → DetailFact
  -- of all that the instruction takes from what the frame before it has
  taken : UnmetFact → DetailFact
  -- of the frame after the instruction from the one that is declared at a target
  target : DifferenceAtFact → DetailFact
  -- of the frame before the instruction from that of the handler of the entry at this place of the exception table
  handler : (place : ℕ) → DifferenceAtFact → DetailFact
  -- the entry at this place of the exception table
  entry : (place : ℕ) → DetailFact
  -- the entry at this place of the stack map, and the offset of the frame that it would declare, if bytes spell it
  map_entry : (place : ℕ) (at : Option ℕ) → DetailFact

-- these numbers are about an operand or a local variable of the instruction
abbrev pub is_of_taken : ℕ → Bool
is_of_taken n = nat_eq n missing_operand || nat_eq n wrong_operand || nat_eq n wrong_local

-- of the frame that comes from the declared one, where there are both
abbrev pub arriving_if : Sought → List ClassFact → Option FrameFact → Option FrameFact → Option DetailFact
arriving_if sought classes (Some coming) (Some declared) =
    option_map arriving (sought_difference sought classes coming declared)
arriving_if sought classes _ _ = None

-- the least reason is that a class is missing
abbrev pub is_class_asked : Option Reason → Bool
is_class_asked None = false
is_class_asked (Some why) = is_missing_class why

-- the first entry of the exception table that is refused before the code is judged
abbrev pub refused_if : List ClassFact → Method Act → Frames → Option DetailFact
refused_if classes m frames = option_map entry (first_refused classes m frames 0 m.exceptions)

-- the first one that covers an instruction
abbrev pub covering_if : Method Act → ℕ → Option DetailFact
covering_if m at = option_map entry (first_covering at 0 m.exceptions)

-- the first of all that an instruction takes that the frame before it has not
abbrev pub unmet_if : List ClassFact → Method Act → TypingRule → Option FrameFact → Option DetailFact
unmet_if classes m p None = None
unmet_if classes m p (Some f) = option_map taken (first_unmet classes m (expected_types p) f)

module _ (classes : List ClassFact) (m : Method Act) (frames : Frames) (at : ℕ) (act : Act) (p : TypingRule) where
  abbrev pub target_if : Sought → Option FrameFact → Option DetailFact
  target_if sought before = option_map target (target_difference sought classes m frames at p before)

  abbrev pub handler_if : Sought → Option FrameFact → Option DetailFact
  handler_if sought before =
      option_map (λ h. handler h.0 h.1) (handler_difference sought classes m frames at before)

  -- a handler, unless the object of a protected member asks for a class, of which nothing is told
  abbrev pub unknown_aside : FrameFact → Option DetailFact
  unknown_aside f =
      if is_class_asked (least (member_conditions classes m act f)) then None else handler_if Missing (Some f)

  -- of all that is asked of an instruction in the frame before it: what it takes goes first, then its targets, then the
  -- object of a protected member and its handlers
  abbrev pub unknown_in : FrameFact → Option DetailFact
  unknown_in f =
      if is_class_asked (least (conditions classes m at p f))
      then option_map taken (first_unknown classes m (expected_types p) f)
      else option_or (target_if Missing (Some f)) (unknown_aside f)

  -- the comparison that asks for the missing class: the exception table goes first, and then the frame that comes with
  -- the declared one
  abbrev pub unknown_if : Option FrameFact → Option FrameFact → Option FrameFact → Option DetailFact
  unknown_if coming declared before =
      option_or (refused_if classes m frames)
      (option_or (arriving_if Missing classes coming declared) (option_and_then unknown_in before))

  -- by the number of the reason
  abbrev pub detail_at : ℕ → Option FrameFact → Option FrameFact → Option FrameFact → Option DetailFact
  detail_at n coming declared before =
      if is_of_taken n then unmet_if classes m p before
      else if nat_eq n not_assignable_at_target then target_if No before
      else if nat_eq n not_assignable then arriving_if No classes coming declared
      else if nat_eq n bad_exception then refused_if classes m frames
      else if nat_eq n handler_not_assignable then handler_if No before
      else if nat_eq n constructor_covered then covering_if m at
      else if nat_eq n absent_class then unknown_if coming declared before
      else None

-- ---- of a stack map that is refused

abbrev pub refused_detail : RefusedFact → DetailFact
refused_detail r = map_entry r.place (Some r.at)

abbrev pub faulty_detail : List ℕ → Option DetailFact
faulty_detail body = option_map (λ place. map_entry place None) (faulty_entry body)

-- the first entry that declares no frame, or the first that bytes do not spell
abbrev pub map_detail_of : Method Act → Result (List MapEntry) ReadFault → Option DetailFact
map_detail_of m (Ok entries) = option_map refused_detail
    (refused_entry m.constant_pool m.code m.max_locals m.max_stack (initial_types m) entries)
map_detail_of m (Err fault) = option_and_then faulty_detail m.stack_map

abbrev pub map_detail : Method Act → Option DetailFact
map_detail m = map_detail_of m (entries_read m.stack_map)

-- ---- what a value of the program stands for

abbrev pub detail_of : Detail → DetailFact
detail_of (details.Arriving d) = arriving (difference_of d)
detail_of (details.Taken x) = taken (unmet_of x)
detail_of (details.Target d) = target (difference_at_of d)
detail_of (details.Handler place d) = handler place (difference_at_of d)
detail_of (details.Entry place) = entry place
detail_of (details.MapEntry place at) = map_entry place at
