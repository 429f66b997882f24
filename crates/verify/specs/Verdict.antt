-- The verdict on a method (JVMS 4.10.1.6): it is verified, or refused at an offset for a reason.
-- One pass goes over the code and carries one frame.
use Rattle.std.specs.Prelude.{ℕ, ℤ, pos, negsuc, Bool, true, false, not, ◌&&◌, ◌||◌, is_none, nat_lt, nat_eq, List, [], ◌∷◌, ◌++◌, length, Option, Some, None, Result, Ok, Err, if◌then◌else◌}
use Rattle.names.specs.StandardNames.{throwable_name}
use Rattle.layout.specs.Place.{Place}
use Rattle.layout.specs.Format.{reads}
use Rattle.layout.specs.Refusals.{read_fault_number}
use Rattle.layout.specs.declared.fault.ReadFault.{ReadFault}
use Rattle.layout.specs.declared.fault.ReadFault.TheVariants.{AttributeLength}
use Rattle.classfile.specs.Methods.{Method, ExceptionEntry, covers}
use Rattle.hierarchy.specs.Class.{ClassFact}
use Rattle.hierarchy.specs.Answer.{Outcome}
use Rattle.insn.specs.Meanings.{Act}
use Rattle.insn.specs.Offsets.{at_offset, has_offset, first_offset}
use Rattle.frames.specs.VerificationType.{class}
use Rattle.frames.specs.FrameFact.{FrameFact}
use Rattle.frames.specs.Slots.{to_reference, in_locals}
use Rattle.frames.specs.Assignable.{type_answer}
use Rattle.frames.specs.FrameAssignable.{frame_answer}
use Rattle.frames.specs.Conditions.{Reason, reason, with_fault, number_of, Conditions, least, is_no, missing_if}
use Rattle.frames.specs.StackMaps.{MapEntry, stack_map}
use Rattle.frames.specs.DeclaredFrames.{declared_frames}
use Rattle.rules.specs.ReasonNumbers.{local_out_of_range, no_frame_at_target, not_assignable_at_target, not_assignable, no_frame, falls_off, bad_exception, handler_not_assignable, constructor_covered, bad_stack_map}
use Rattle.rules.specs.TypingRules.{TypingRule, falls, targets}
use Rattle.rules.specs.Table.{TypingRules}
use Rattle.rules.specs.After.{after}
use Rattle.rules.specs.Rules.{constructs_own, conditions}
use Rattle.rules.specs.Protected.{member_conditions}
use Rattle.verify.specs.InitialFrames.{initial_types, initial_frame}
use Rattle.verify.specs.TypeSafety.{Frames, caught_frame}

-- why a stack map is refused (4.7.4)
pub data MapRefusal : Type 0 where
  -- its bytes are no entries
  unreadable : (fault : ReadFault) → MapRefusal
  -- an entry declares no frame
  undeclared : (why : Reason) → MapRefusal

pub data Verdict : Type 0 where
  verified : Verdict
  refused : (at : ℕ) (why : Reason) → Verdict
  -- 78 at 0
  map_refused : (why : MapRefusal) → Verdict

-- the number of the fault for which a stack map is refused
abbrev pub map_fault_number : MapRefusal → ℕ
map_fault_number (unreadable fault) = read_fault_number fault
map_fault_number (undeclared why) = number_of why

-- the offset and the reason of a refusal
abbrev pub told_of : Verdict → Option (ℕ × Reason)
told_of verified = None
told_of (refused at why) = Some (at, why)
told_of (map_refused why) = Some (0, with_fault bad_stack_map (map_fault_number why))

-- refused where there is a reason, and otherwise as the rest says
abbrev pub refused_or : Option Reason → ℕ → Verdict → Verdict
refused_or None at rest = rest
refused_or (Some why) at rest = refused at why

abbrev pub answer_conditions : ℕ → Outcome → Conditions
answer_conditions number answer = (reason number, is_no answer) ∷ missing_if answer ∷ []

-- ---- the frames that are declared (4.7.4, 4.10.1.3)

-- all bytes of a body are its entries
abbrev pub all_entries : Result (List MapEntry × Place) ReadFault → Result (List MapEntry) ReadFault
all_entries (Ok x) = if nat_eq (length x.1.rest) 0 then Ok x.0 else Err (AttributeLength x.1.at)
all_entries (Err fault) = Err fault

abbrev pub entries_read : Option (List ℕ) → Result (List MapEntry) ReadFault
entries_read None = Ok []
entries_read (Some body) = all_entries (reads stack_map 0 body)

abbrev pub or_undeclared : Result Frames Reason → Result Frames MapRefusal
or_undeclared (Ok frames) = Ok frames
or_undeclared (Err why) = Err (undeclared why)

abbrev pub frames_of : Method Act → Result (List MapEntry) ReadFault → Result Frames MapRefusal
frames_of m (Ok entries) = or_undeclared
    (declared_frames m.constant_pool m.code m.max_locals m.max_stack (initial_types m) entries)
frames_of m (Err fault) = Err (unreadable fault)

abbrev pub frames_declared : Method Act → Result Frames MapRefusal
frames_declared m = frames_of m (entries_read m.stack_map)

-- ---- the exception table, entry by entry (4.7.3, 4.10.1.6)

-- an end is a start, or the code's length
abbrev pub is_end : Method Act → ℕ → Bool
is_end m to = has_offset m.code to || nat_eq to m.code_length

abbrev pub table_conditions : List ClassFact → Method Act → Frames → ExceptionEntry → Conditions
table_conditions classes m frames e =
    (reason bad_exception, not (nat_lt e.from e.to))
    ∷ (reason bad_exception, not (has_offset m.code e.from))
    ∷ (reason bad_exception, not (is_end m e.to))
    ∷ (reason bad_exception, not (has_offset m.code e.handler))
    ∷ (reason bad_exception, not (has_offset frames e.handler))
    ∷ answer_conditions bad_exception (type_answer classes (to_reference e.caught) (class throwable_name))

-- the first entry that is refused says why
abbrev pub table_judged : List ClassFact → Method Act → Frames → List ExceptionEntry → Verdict → Verdict
table_judged classes m frames [] rest = rest
table_judged classes m frames (e ∷ es) rest =
    refused_or (least (table_conditions classes m frames e)) 0 (table_judged classes m frames es rest)

-- ---- the conditions on an instruction in the frame before it, except those on the frame at the next start (4.10.1.6)

-- no frame is declared at a negative offset
abbrev pub declared_at : Frames → ℤ → Option FrameFact
declared_at frames (pos at) = at_offset frames at
declared_at frames (negsuc n) = None

-- the frame after comes to a target
abbrev pub one_target : List ClassFact → Option FrameFact → FrameFact → Conditions
one_target classes None f = (reason no_frame_at_target, true) ∷ []
one_target classes (Some declared) f = answer_conditions not_assignable_at_target (frame_answer classes f declared)

abbrev pub target_conditions : List ClassFact → Frames → FrameFact → List ℤ → Conditions
target_conditions classes frames f [] = []
target_conditions classes frames f (target ∷ others) =
    one_target classes (declared_at frames target) f ++ target_conditions classes frames f others

-- the frame before comes to a handler, at which a frame is declared: otherwise the exception table was refused
abbrev pub one_handler : List ClassFact → Option FrameFact → FrameFact → Conditions
one_handler classes None f = (reason handler_not_assignable, true) ∷ []
one_handler classes (Some declared) f = answer_conditions handler_not_assignable (frame_answer classes f declared)

abbrev pub handler_conditions : List ClassFact → Frames → ℕ → FrameFact → List ExceptionEntry → Conditions
handler_conditions classes frames at f [] = []
handler_conditions classes frames at f (e ∷ es) =
    (if covers e at then one_handler classes (at_offset frames e.handler) (caught_frame e f) else [])
    ++ handler_conditions classes frames at f es

abbrev pub is_covered : List ExceptionEntry → ℕ → Bool
is_covered [] at = false
is_covered (e ∷ es) at = covers e at || is_covered es at

-- the conditions on the frame before besides those of the typing rule: on the object on which a protected member is
-- used, and on the frames at handlers
abbrev pub before_conditions : List ClassFact → Method Act → Frames → ℕ → Act → FrameFact → Conditions
before_conditions classes m frames at act f =
    member_conditions classes m act f ++ handler_conditions classes frames at f m.exceptions

-- all conditions on an instruction, by its act and its typing rule, with the next start if there is one. No act both
-- branches and uses a member of an object.
abbrev pub at_conditions : List ClassFact → Method Act → Frames → ℕ → Act → TypingRule → Option ℕ → FrameFact
    → Conditions
at_conditions classes m frames at act p next f =
    conditions classes m at p f
    ++ (target_conditions classes frames (after m at p f) (targets at p)
    ++ (before_conditions classes m frames at act f
    ++ ((reason falls_off, falls p && is_none next)
    ∷ (reason constructor_covered, constructs_own p f && is_covered m.exceptions at) ∷ [])))

-- ---- the frame that comes to a start, where the instruction in front falls through, and the one that goes on

abbrev pub entry : List ClassFact → (falls : Bool) → FrameFact → Option FrameFact → Option Reason
entry classes true f None = None
entry classes true f (Some declared) = least (answer_conditions not_assignable (frame_answer classes f declared))
entry classes false f None = Some (reason no_frame)
entry classes false f (Some declared) = None

abbrev pub entered : FrameFact → Option FrameFact → FrameFact
entered f None = f
entered f (Some declared) = declared

-- ---- the pass over the code

-- a frame comes to the first of these instructions
abbrev pub arrives : List ClassFact → Frames → List (ℕ × Act) → Bool → FrameFact → (FrameFact → Verdict) → Verdict
arrives classes frames [] falls f goes_on = verified
arrives classes frames (c ∷ cs) falls f goes_on =
    refused_or (entry classes falls f (at_offset frames c.0)) c.0 (goes_on (entered f (at_offset frames c.0)))

-- from this instruction on, the frame before it being this one
abbrev pub passes : TypingRules → List ClassFact → Method Act → Frames → List (ℕ × Act) → FrameFact → Verdict
passes typing_rule classes m frames [] f = verified
passes typing_rule classes m frames (c ∷ cs) f =
    refused_or (least (at_conditions classes m frames c.0 c.1 (typing_rule m c.1) (first_offset cs) f)) c.0
    (arrives classes frames cs (falls (typing_rule m c.1)) (after m c.0 (typing_rule m c.1) f)
    (passes typing_rule classes m frames cs))

abbrev pub code_judged : TypingRules → List ClassFact → Method Act → Frames → Verdict
code_judged typing_rule classes m frames =
    arrives classes frames m.code true (initial_frame m) (passes typing_rule classes m frames m.code)

-- ---- the method

abbrev pub with_frames : TypingRules → List ClassFact → Method Act → Result Frames MapRefusal → Verdict
with_frames typing_rule classes m (Ok frames) =
    table_judged classes m frames m.exceptions (code_judged typing_rule classes m frames)
with_frames typing_rule classes m (Err why) = map_refused why

abbrev pub verdict : TypingRules → List ClassFact → Method Act → Verdict
verdict typing_rule classes m =
    if nat_lt m.max_locals (length (in_locals (initial_types m))) then refused 0 (reason local_out_of_range)
    else with_frames typing_rule classes m (frames_declared m)
