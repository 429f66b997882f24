-- The meaning of a refusal: which step refuses, and how far the method is type-safe (JVMS 4.10.1.6).
use Rattle.std.specs.Prelude.{◌≡◌, ℕ, ◌<◌, ◌≤◌, true, List, ◌∷◌, ◌++◌, Some, Err, length, ◌⊎◌, ◌↔◌}
use Rattle.classfile.specs.Methods.{Method, ExceptionEntry}
use Rattle.hierarchy.specs.Class.{ClassFact}
use Rattle.insn.specs.Meanings.{Act}
use Rattle.insn.specs.Offsets.{at_offset, next_offset, IsStart, IsAmong, StartsRise}
use Rattle.frames.specs.FrameFact.{FrameFact}
use Rattle.frames.specs.Slots.{in_locals}
use Rattle.frames.specs.Conditions.{Reason, reason, NoneHolds, least}
use Rattle.frames.specs.StackMaps.{MapEntry, MapFault}
use Rattle.frames.specs.DeclaredFrames.{declared_frames}
use Rattle.rules.specs.ReasonNumbers.{local_out_of_range}
use Rattle.rules.specs.TypingRules.{falls}
use Rattle.rules.specs.Table.{TypingRules}
use Rattle.rules.specs.After.{after}
use Rattle.verify.specs.InitialFrames.{initial_types, initial_frame}
use Rattle.verify.specs.TypeSafety.{Frames, HasEntries, Declares, Comes, IsSoundEntry, IsTypeSafeAt}
use Rattle.verify.specs.Verdict.{MapRefusal, unreadable, undeclared, refused, map_refused, table_conditions, at_conditions, entry, verdict}

-- the frames at the starts up to an offset, and the conditions of the instructions before it
pub record IsTypeSafeUpTo (typing_rule : TypingRules) (classes : List ClassFact) (m : Method Act) (frames : Frames)
    (table : ℕ → FrameFact) (to : ℕ) : Type 0 where
  pub first : Comes classes frames table (initial_frame m) 0
  pub at_declared : (at : ℕ) (f : FrameFact) → IsStart m.code at → at ≤ to → at_offset frames at ≡ Some f → table at ≡ f
  pub each : (at : ℕ) (act : Act) → at < to → at_offset m.code at ≡ Some act
      → IsTypeSafeAt classes m frames table at act (typing_rule m act)

-- The method is type-safe up to this instruction.
pub record Reaches (typing_rule : TypingRules) (classes : List ClassFact) (m : Method Act) (frames : Frames)
    (at : ℕ) : Type 0 where
  pub table : ℕ → FrameFact
  pub safe : IsTypeSafeUpTo typing_rule classes m frames table at
  pub act : Act
  pub here : at_offset m.code at ≡ Some act

-- The instruction breaks a condition that is not on the frame at its next start; of those that hold the reason is the
-- least.
pub record BreaksRule (typing_rule : TypingRules) (classes : List ClassFact) (m : Method Act) (frames : Frames) (at : ℕ)
    (why : Reason) : Type 0 where
  pub reached : Reaches typing_rule classes m frames at
  pub told : least (at_conditions classes m frames at reached.act (typing_rule m reached.act) (next_offset m.code at)
      (reached.table at)) ≡ Some why

-- The instruction before meets all conditions but that on the frame at its next start, and this is the reason against
-- that.
pub record BreaksFrame (typing_rule : TypingRules) (classes : List ClassFact) (m : Method Act) (frames : Frames)
    (at : ℕ) (why : Reason) : Type 0 where
  pub before : ℕ
  pub reached : Reaches typing_rule classes m frames before
  pub next : next_offset m.code before ≡ Some at
  pub fine : NoneHolds (at_conditions classes m frames before reached.act (typing_rule m reached.act) (Some at)
      (reached.table before))
  pub told :
      entry classes (falls (typing_rule m reached.act))
      (after m before (typing_rule m reached.act) (reached.table before)) (at_offset frames at) ≡ Some why

-- The initial frame is not assignable to the one that is declared at 0.
pub record BreaksFirst (classes : List ClassFact) (m : Method Act) (frames : Frames) (at : ℕ)
    (why : Reason) : Type 0 where
  pub at_zero : at ≡ 0
  pub told : entry classes true (initial_frame m) (at_offset frames 0) ≡ Some why

-- An entry of the exception table is refused, and those in front of it are sound.
pub record BreaksTable (classes : List ClassFact) (m : Method Act) (frames : Frames) (at : ℕ)
    (why : Reason) : Type 0 where
  pub at_zero : at ≡ 0
  pub front : List ExceptionEntry
  pub broken : ExceptionEntry
  pub others : List ExceptionEntry
  pub parts : m.exceptions ≡ front ++ (broken ∷ others)
  pub sound : (e : ExceptionEntry) → IsAmong e front → IsSoundEntry classes m frames e
  pub told : least (table_conditions classes m frames broken) ≡ Some why

-- Receiver and parameters do not fit.
pub record HasNoRoom (m : Method Act) (at : ℕ) (why : Reason) : Type 0 where
  pub at_zero : at ≡ 0
  pub narrow : m.max_locals < length (in_locals (initial_types m))
  pub told : why ≡ reason local_out_of_range

-- All entries of the exception table are sound.
pub record BreaksCode (typing_rule : TypingRules) (classes : List ClassFact) (m : Method Act) (frames : Frames) (at : ℕ)
    (why : Reason) : Type 0 where
  pub sound : (e : ExceptionEntry) → IsAmong e m.exceptions → IsSoundEntry classes m frames e
  pub broken : BreaksFirst classes m frames at why
      ⊎ (BreaksFrame typing_rule classes m frames at why ⊎ BreaksRule typing_rule classes m frames at why)

-- Receiver and parameters fit, and the stack map declares frames.
abbrev pub BreaksWithFrames : TypingRules → List ClassFact → Method Act → ℕ → Reason → Type 0
BreaksWithFrames typing_rule classes m at why =
    (length (in_locals (initial_types m)) ≤ m.max_locals)
    × (frames : Frames) × Declares m frames
    × (BreaksTable classes m frames at why ⊎ BreaksCode typing_rule classes m frames at why)

-- it is refused there for this reason exactly where that holds
abbrev pub RefusedWhere : Type 0
RefusedWhere =
    (typing_rule : TypingRules) (classes : List ClassFact) (m : Method Act) → StartsRise 0 m.code → IsStart m.code 0
    → (at : ℕ) (why : Reason)
    → (verdict typing_rule classes m ≡ refused at why)
    ↔ (HasNoRoom m at why ⊎ BreaksWithFrames typing_rule classes m at why)

-- ---- the stack map is refused

-- It has a fault, or its entries are there and one is refused.
abbrev pub IsMapFault : Method Act → MapRefusal → Type 0
IsMapFault m (unreadable fault) = (body : List ℕ) × (m.stack_map ≡ Some body) × MapFault body fault
IsMapFault m (undeclared why) =
    (entries : List MapEntry) × HasEntries m.stack_map entries
    × (declared_frames m.constant_pool m.code m.max_locals m.max_stack (initial_types m) entries ≡ Err why)

abbrev pub MapRefusedWhere : Type 0
MapRefusedWhere =
    (typing_rule : TypingRules) (classes : List ClassFact) (m : Method Act) (why : MapRefusal)
    → (verdict typing_rule classes m ≡ map_refused why)
    ↔ ((length (in_locals (initial_types m)) ≤ m.max_locals) × IsMapFault m why)
