-- When a method is type-safe (JVMS 4.10.1.6): there is a frame for each instruction, and each instruction is type-safe
-- in its frame.
use Rattle.std.specs.Prelude.{◌≡◌, ℕ, ℤ, pos, ◌≤◌, ◌<◌, true, false, List, [], ◌∷◌, length, Option, Some, None, Ok, ◌⊎◌}
use Rattle.names.specs.StandardNames.{throwable_name}
use Rattle.classfile.specs.Methods.{Method, ExceptionEntry, covers}
use Rattle.hierarchy.specs.Class.{ClassFact}
use Rattle.hierarchy.specs.Answer.{yes}
use Rattle.insn.specs.Meanings.{Act}
use Rattle.insn.specs.Offsets.{at_offset, next_offset, IsStart, IsAmong}
use Rattle.frames.specs.VerificationType.{class}
use Rattle.frames.specs.FrameFact.{FrameFact}
use Rattle.frames.specs.Slots.{to_reference, in_locals}
use Rattle.frames.specs.Assignable.{type_answer}
use Rattle.frames.specs.FrameAssignable.{frame_answer}
use Rattle.frames.specs.Conditions.{NoneHolds}
use Rattle.frames.specs.StackMaps.{MapEntry, IsMap}
use Rattle.frames.specs.DeclaredFrames.{declared_frames}
use Rattle.rules.specs.TypingRules.{TypingRule, falls, targets}
use Rattle.rules.specs.Table as tables
use Rattle.rules.specs.Table.{TypingRules}
use Rattle.rules.specs.After.{with_stack, after}
use Rattle.rules.specs.Rules.{constructs_own, conditions}
use Rattle.rules.specs.Protected.{member_conditions}
use Rattle.verify.specs.InitialFrames.{initial_types, initial_frame}

-- ---- declared frames

-- frames with their offsets
abbrev pub Frames : Type 0
Frames = List (ℕ × FrameFact)

-- the entries of a StackMapTable, and none without one
abbrev pub HasEntries : Option (List ℕ) → List MapEntry → Type 0
HasEntries None entries = entries ≡ []
HasEntries (Some body) entries = IsMap body entries

-- the method's stack map declares these frames
pub record Declares (m : Method Act) (frames : Frames) : Type 0 where
  pub entries : List MapEntry
  pub spelled : HasEntries m.stack_map entries
  pub declared : declared_frames m.constant_pool m.code m.max_locals m.max_stack (initial_types m) entries ≡ Ok frames

-- ---- where frames lead

-- at the offset a frame is declared to which this one is assignable
pub record LeadsTo (classes : List ClassFact) (frames : Frames) (f : FrameFact) (at : ℕ) : Type 0 where
  pub declared : FrameFact
  pub here : at_offset frames at ≡ Some declared
  pub assignable : frame_answer classes f declared ≡ yes

-- a frame is declared at the target of a branch to which this one is assignable
abbrev pub LeadsToTarget : List ClassFact → Frames → FrameFact → ℤ → Type 0
LeadsToTarget classes frames f target = (at : ℕ) × (target ≡ pos at) × LeadsTo classes frames f at

-- The frame that comes to an offset is the table's, or a frame is declared there to which it is assignable.
abbrev pub Comes : List ClassFact → Frames → (ℕ → FrameFact) → FrameFact → ℕ → Type 0
Comes classes frames table f at = (table at ≡ f) ⊎ LeadsTo classes frames f at

-- the frame of a handler: what is caught stands alone on the stack
abbrev pub caught_frame : ExceptionEntry → FrameFact → FrameFact
caught_frame e f = with_stack f (to_reference e.caught ∷ [])

-- ---- the exception table (4.7.3, 4.10.1.6)

pub record IsSoundEntry (classes : List ClassFact) (m : Method Act) (frames : Frames)
    (e : ExceptionEntry) : Type 0 where
  pub some : e.from < e.to
  pub from_start : IsStart m.code e.from
  pub to_start : IsStart m.code e.to ⊎ (e.to ≡ m.code_length)
  pub handler_start : IsStart m.code e.handler
  pub handler_frame : (f : FrameFact) × (at_offset frames e.handler ≡ Some f)
  pub throwable : type_answer classes (to_reference e.caught) (class throwable_name) ≡ yes

-- ---- an instruction in the frame before it

pub record IsTypeSafeAt (classes : List ClassFact) (m : Method Act) (frames : Frames) (table : ℕ → FrameFact) (at : ℕ)
    (act : Act) (p : TypingRule) : Type 0 where
  pub rule : NoneHolds (conditions classes m at p (table at))
  -- a protected member of another package and of a class above the current one is used only on objects of the current
  -- class (4.10.1.8), and of an interface that is no direct one no method is called by invokespecial (4.9.2)
  pub protected : NoneHolds (member_conditions classes m act (table at))
  pub leads : (target : ℤ) → IsAmong target (targets at p)
      → LeadsToTarget classes frames (after m at p (table at)) target
  pub next : falls p ≡ true → (to : ℕ) × (next_offset m.code at ≡ Some to)
      × Comes classes frames table (after m at p (table at)) to
  -- after an instruction that does not fall through a frame is declared
  pub alone : falls p ≡ false → (to : ℕ) → next_offset m.code at ≡ Some to → (f : FrameFact)
      × (at_offset frames to ≡ Some f)
  pub handled : (e : ExceptionEntry) → IsAmong e m.exceptions → covers e at ≡ true
      → LeadsTo classes frames (caught_frame e (table at)) e.handler
  -- no entry covers a call of a constructor on the own object, which is not initialized (a rule of this project,
  -- stricter than 4.10.1.6)
  pub uncovered : constructs_own p (table at) ≡ true → (e : ExceptionEntry) → IsAmong e m.exceptions
      → covers e at ≡ false

-- ---- a method

-- by these typing rules
pub record IsTypeSafeBy (typing_rule : TypingRules) (classes : List ClassFact) (m : Method Act) : Type 0 where
  -- code is not empty, and begins at 0 (4.7.3)
  pub begins : IsStart m.code 0
  pub enough : length (in_locals (initial_types m)) ≤ m.max_locals
  pub frames : Frames
  pub declares : Declares m frames
  pub entries : (e : ExceptionEntry) → IsAmong e m.exceptions → IsSoundEntry classes m frames e
  -- the frame before each instruction
  pub table : ℕ → FrameFact
  pub first : Comes classes frames table (initial_frame m) 0
  pub at_declared : (at : ℕ) (f : FrameFact) → at_offset frames at ≡ Some f → table at ≡ f
  pub each : (at : ℕ) (act : Act) → at_offset m.code at ≡ Some act
      → IsTypeSafeAt classes m frames table at act (typing_rule m act)

abbrev pub IsTypeSafe : List ClassFact → Method Act → Type 0
IsTypeSafe = IsTypeSafeBy tables.typing_rule
