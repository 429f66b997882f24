-- The conditions of a method that is type-safe, each with the number of the refusal which says that it is broken (JVMS
-- 4.10.1.6): in words of the fields of that definition, and not of the verdict. So a verdict with another number would
-- break a law.
use Rattle.std.specs.Prelude.{◌≡◌, ℕ, ℤ, pos, ◌<◌, ◌≤◌, Bool, true, false, List, ◌∷◌, ◌++◌, length, Option, Some, None, ◌⊎◌, ◌↔◌}
use Rattle.names.specs.StandardNames.{throwable_name}
use Rattle.classfile.specs.Methods.{Method, ExceptionEntry, covers}
use Rattle.hierarchy.specs.Class.{ClassFact}
use Rattle.hierarchy.specs.Answer.{Outcome, no, missing}
use Rattle.hierarchy.specs.Nearest.{is_guarded}
use Rattle.insn.specs.Meanings.{Act}
use Rattle.insn.specs.Offsets.{at_offset, next_offset, IsStart, IsAmong, StartsRise}
use Rattle.frames.specs.VerificationType.{class}
use Rattle.frames.specs.FrameFact.{FrameFact}
use Rattle.frames.specs.Slots.{to_reference, in_locals}
use Rattle.frames.specs.Assignable.{type_answer}
use Rattle.frames.specs.FrameAssignable.{frame_answer}
use Rattle.frames.specs.Conditions.{Reason, reason, class_missing, with_fault, number_of, Conditions}
use Rattle.rules.specs.TypingRules.{TypingRule, falls, targets}
use Rattle.rules.specs.Table.{TypingRules}
use Rattle.rules.specs.After.{after}
use Rattle.rules.specs.Rules.{constructs_own, conditions}
use Rattle.rules.specs.Interfaces.{calls_indirect}
use Rattle.rules.specs.Protected.{Use, used_by, object_beneath, object_answer}
use Rattle.verify.specs.InitialFrames.{initial_types, initial_frame}
use Rattle.verify.specs.TypeSafety.{Frames, Declares, caught_frame, IsSoundEntry}
use Rattle.verify.specs.Refusals.{Reaches, IsMapFault}
use Rattle.verify.specs.Verdict.{MapRefusal, refused, map_refused, map_fault_number, told_of, table_conditions, at_conditions, entry, verdict}

-- it holds, for this reason
abbrev pub Holds : Conditions → Reason → Type 0
Holds conditions why = IsAmong {A = Reason × Bool} (why, true) conditions

-- at the offset no frame is declared
abbrev pub HasNoFrame : Frames → ℕ → Type 0
HasNoFrame frames at = (f : FrameFact) → at_offset frames at ≡ Some f → ⊥

-- at the offset a frame is declared, and this is the answer whether the other is assignable to it
pub record Meets (classes : List ClassFact) (frames : Frames) (f : FrameFact) (at : ℕ) (answer : Outcome) : Type 0 where
  pub declared : FrameFact
  pub here : at_offset frames at ≡ Some declared
  pub told : frame_answer classes f declared ≡ answer

-- ---- an instruction

-- a target of it
pub record Target (at : ℕ) (p : TypingRule) : Type 0 where
  pub target : ℤ
  pub among : IsAmong target (targets at p)

-- an entry of the exception table that covers it
pub record Covering (m : Method Act) (at : ℕ) : Type 0 where
  pub e : ExceptionEntry
  pub among : IsAmong e m.exceptions
  pub covered : covers e at ≡ true

-- the member that it uses on an object is guarded: it is protected in another package, in a class above the current one
pub record Guarded (classes : List ClassFact) (m : Method Act) (act : Act) : Type 0 where
  pub member : Use
  pub used : used_by m act ≡ Some member
  pub guarded : is_guarded classes m.class member.reference ≡ true

-- The condition on an instruction that is broken, the frame at its next start aside, by the fields of an instruction
-- that is type-safe.
pub data Breaks (classes : List ClassFact) (m : Method Act) (frames : Frames) (at : ℕ) (act : Act) (p : TypingRule)
    (next : Option ℕ) (f : FrameFact) (why : Reason) : Type 0 where
  -- `rule`, with a reason of the rule
  rule : Holds (conditions classes m at p f) why → Breaks classes m frames at act p next f why
  -- `leads`: 67, no frame is declared at a target
  no_frame_at_target : why ≡ reason 67 → (t : Target at p) → ((to : ℕ) → t.target ≡ pos to → HasNoFrame frames to)
      → Breaks classes m frames at act p next f why
  -- 68, the frame after is not assignable to the one that is declared there
  not_assignable_at_target : why ≡ reason 68 → (t : Target at p) → (to : ℕ) → t.target ≡ pos to
      → Meets classes frames (after m at p f) to no
      → Breaks classes m frames at act p next f why
  -- 77, the answer needs a class which is missing
  missing_at_target : (name : List ℕ) → why ≡ class_missing name → (t : Target at p) → (to : ℕ) → t.target ≡ pos to
      → Meets classes frames (after m at p f) to (missing name) → Breaks classes m frames at act p next f why
  -- `protected`: 82, the object on which a member is used that is guarded is none of the current class
  protected_member : why ≡ reason 82 → (g : Guarded classes m act)
      → object_answer classes m.class (object_beneath g.member f) ≡ no
      → Breaks classes m frames at act p next f why
  -- 86, a method of an interface is called that is no direct one
  not_direct : why ≡ reason 86 → calls_indirect m act ≡ true → Breaks classes m frames at act p next f why
  -- 77, the answer needs a class which is missing
  missing_object : (name : List ℕ) → why ≡ class_missing name → (g : Guarded classes m act)
      → object_answer classes m.class (object_beneath g.member f) ≡ missing name
      → Breaks classes m frames at act p next f why
  -- `handled`: 73, at the handler of an entry that covers it no frame is declared
  no_frame_at_handler : why ≡ reason 73 → (c : Covering m at) → HasNoFrame frames c.e.handler
      → Breaks classes m frames at act p next f why
  -- or its frame is not assignable to the one that is declared there
  not_assignable_at_handler : why ≡ reason 73 → (c : Covering m at)
      → Meets classes frames (caught_frame c.e f) c.e.handler no
      → Breaks classes m frames at act p next f why
  missing_at_handler : (name : List ℕ) → why ≡ class_missing name → (c : Covering m at)
      → Meets classes frames (caught_frame c.e f) c.e.handler (missing name)
      → Breaks classes m frames at act p next f why
  -- `next`: 71, it falls through, and there is no next instruction
  falls_off : why ≡ reason 71 → falls p ≡ true → next ≡ None → Breaks classes m frames at act p next f why
  -- `uncovered`: 75, an entry covers a constructor on the own object
  constructor_covered : why ≡ reason 75 → constructs_own p f ≡ true → Covering m at
      → Breaks classes m frames at act p next f why

-- ---- the frame at a start

-- The condition on the frame at a start that is broken: the frame that comes in from the instruction before, where that
-- falls through, or the initial frame at 0.
pub data BreaksAt (classes : List ClassFact) (frames : Frames) (comes : Bool) (f : FrameFact) (at : ℕ)
    (why : Reason) : Type 0 where
  -- `next`, `first`: 69, it is not assignable to the one that is declared there
  not_assignable : why ≡ reason 69 → comes ≡ true → Meets classes frames f at no
      → BreaksAt classes frames comes f at why
  missing_there : (name : List ℕ) → why ≡ class_missing name → comes ≡ true → Meets classes frames f at (missing name)
      → BreaksAt classes frames comes f at why
  -- `alone`: 70, none comes in, and none is declared
  no_frame : why ≡ reason 70 → comes ≡ false → HasNoFrame frames at → BreaksAt classes frames comes f at why

-- ---- an entry of the exception table

pub data BreaksEntry (classes : List ClassFact) (m : Method Act) (frames : Frames) (e : ExceptionEntry)
    (why : Reason) : Type 0 where
  -- 72 at each: it covers nothing; it begins or ends at no start, its end being the code's length aside; its handler is
  -- no start, or without a frame
  covers_nothing : why ≡ reason 72 → e.to ≤ e.from → BreaksEntry classes m frames e why
  no_start : why ≡ reason 72 → (IsStart m.code e.from → ⊥) → BreaksEntry classes m frames e why
  no_end : why ≡ reason 72 → (IsStart m.code e.to ⊎ (e.to ≡ m.code_length) → ⊥) → BreaksEntry classes m frames e why
  no_handler : why ≡ reason 72 → (IsStart m.code e.handler → ⊥) → BreaksEntry classes m frames e why
  no_handler_frame : why ≡ reason 72 → HasNoFrame frames e.handler → BreaksEntry classes m frames e why
  -- and it catches what is not a Throwable
  no_throwable : why ≡ reason 72 → type_answer classes (to_reference e.caught) (class throwable_name) ≡ no
      → BreaksEntry classes m frames e why
  missing_class : (name : List ℕ) → why ≡ class_missing name
      → type_answer classes (to_reference e.caught) (class throwable_name) ≡ missing name
      → BreaksEntry classes m frames e why

-- ---- the conditions that the verdict asks are these, each with its number

pub record AreFields (classes : List ClassFact) (m : Method Act) (frames : Frames) : Type 0 where
  pub instructions : (at : ℕ) (act : Act) (p : TypingRule) (next : Option ℕ) (f : FrameFact) (why : Reason)
      → Holds (at_conditions classes m frames at act p next f) why ↔ Breaks classes m frames at act p next f why
  pub arrivals : (comes : Bool) (f : FrameFact) (at : ℕ) (why : Reason)
      → (entry classes comes f (at_offset frames at) ≡ Some why) ↔ BreaksAt classes frames comes f at why
  pub entries : (e : ExceptionEntry) (why : Reason)
      → Holds (table_conditions classes m frames e) why ↔ BreaksEntry classes m frames e why

abbrev pub ConditionsAreFields : Type 0
ConditionsAreFields = (classes : List ClassFact) (m : Method Act) (frames : Frames) → AreFields classes m frames

-- ---- a refusal names a condition that is broken, and no condition with a lesser number is broken

abbrev pub IsLeast : (Reason → Type 0) → Reason → Type 0
IsLeast broken why = broken why × ((other : Reason) → broken other → number_of why ≤ number_of other)

-- the instruction there, up to which the method is type-safe
pub record BreaksInstruction (typing_rule : TypingRules) (classes : List ClassFact) (m : Method Act) (frames : Frames)
    (at : ℕ) (why : Reason) : Type 0 where
  pub reached : Reaches typing_rule classes m frames at
  pub broken : IsLeast (Breaks classes m frames at reached.act (typing_rule m reached.act) (next_offset m.code at)
      (reached.table at)) why

-- the frame there, after an instruction up to which the method is type-safe and that meets each other condition
pub record BreaksArrival (typing_rule : TypingRules) (classes : List ClassFact) (m : Method Act) (frames : Frames)
    (at : ℕ) (why : Reason) : Type 0 where
  pub before : ℕ
  pub reached : Reaches typing_rule classes m frames before
  pub next : next_offset m.code before ≡ Some at
  pub fine : (other : Reason) → Breaks classes m frames before reached.act (typing_rule m reached.act) (Some at)
      (reached.table before) other → ⊥
  pub broken : BreaksAt classes frames (falls (typing_rule m reached.act))
      (after m before (typing_rule m reached.act) (reached.table before)) at why

-- an entry of the exception table, those in front of it being sound
pub record BreaksHandlers (classes : List ClassFact) (m : Method Act) (frames : Frames) (at : ℕ)
    (why : Reason) : Type 0 where
  pub at_zero : at ≡ 0
  pub front : List ExceptionEntry
  pub e : ExceptionEntry
  pub others : List ExceptionEntry
  pub parts : m.exceptions ≡ front ++ (e ∷ others)
  pub sound : (x : ExceptionEntry) → IsAmong x front → IsSoundEntry classes m frames x
  pub broken : IsLeast (BreaksEntry classes m frames e) why

-- the frames being declared
pub data BreaksDeclared (typing_rule : TypingRules) (classes : List ClassFact) (m : Method Act) (frames : Frames)
    (at : ℕ) (why : Reason) : Type 0 where
  at_entry : BreaksHandlers classes m frames at why → BreaksDeclared typing_rule classes m frames at why
  at_beginning : at ≡ 0 → BreaksAt classes frames true (initial_frame m) 0 why
      → BreaksDeclared typing_rule classes m frames at why
  at_frame : BreaksArrival typing_rule classes m frames at why → BreaksDeclared typing_rule classes m frames at why
  at_instruction : BreaksInstruction typing_rule classes m frames at why
      → BreaksDeclared typing_rule classes m frames at why

-- 64 at 0, receiver and parameters do not fit into max_locals; or a condition that asks for declared frames
pub data BreaksMethod (typing_rule : TypingRules) (classes : List ClassFact) (m : Method Act) (at : ℕ)
    (why : Reason) : Type 0 where
  no_room : at ≡ 0 → why ≡ reason 64 → m.max_locals < length (in_locals (initial_types m))
      → BreaksMethod typing_rule classes m at why
  with_frames : (frames : Frames) → Declares m frames → BreaksDeclared typing_rule classes m frames at why
      → BreaksMethod typing_rule classes m at why

abbrev pub RefusedBreaks : Type 0
RefusedBreaks =
    (typing_rule : TypingRules) (classes : List ClassFact) (m : Method Act) → StartsRise 0 m.code → IsStart m.code 0
    → (at : ℕ) (why : Reason)
    → verdict typing_rule classes m ≡ refused at why → BreaksMethod typing_rule classes m at why

-- 78 at 0, the stack map declares no frames
abbrev pub MapRefusedBreaks : Type 0
MapRefusedBreaks =
    (typing_rule : TypingRules) (classes : List ClassFact) (m : Method Act) (why : MapRefusal)
    → verdict typing_rule classes m ≡ map_refused why
    → (told_of (verdict typing_rule classes m) ≡ Some (0, with_fault 78 (map_fault_number why))) × IsMapFault m why
