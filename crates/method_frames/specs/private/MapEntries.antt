-- The running frame while the entries of a stack map are gone through, and the frames that they declared so far.
use Rattle.std.specs.Prelude.{◌≡◌, ℕ, zero, suc, ◌-◌, take, List, [], ◌∷◌, ◌++◌, length, Option, Some, None, Result, Ok, Err}
use Rattle.pool.specs.Entries.{Entry}
use Rattle.insn.specs.Meanings.{Act}
use Rattle.frames.specs.VerificationType.{VerificationType}
use Rattle.frames.specs.FrameFact.{FrameFact}
use Rattle.frames.specs.Conditions.{Reason, reason, least}
use Rattle.frames.specs.FrameReasons.{frame_fault_number}
use Rattle.frames.specs.StackMaps.{MapEntry, chop, append, full}
use Rattle.frames.specs.DeclaredFrames.{types_given, locals_of, stack_of, frame_with, entry_conditions}
use Rattle.frames.specs.declared.frame_fault.FrameFault.{FrameFault}
use Rattle.type_numbers.specs.Numbers.{Numbering}
use Rattle.type_numbers.specs.Decoding.{types_by}
use Rattle.method_frames.specs.NumberedFrames.{NumberedFrames, frame_by}
use Rattle.method_frames.specs.MapFrames.{IsLaidOut}
use Rattle.method_frames.specs.private.KnownRows.{AreGiven}

-- a row of numbers that were given to these types
pub record AreNumbers (s : Numbering) (row : List ℕ) (types : List VerificationType) : Type 0 where
  pub types_are : types_by s row ≡ types
  pub given : AreGiven s row

-- nothing but the running frame's locals is another, and they are as many
pub record AreRewritten (old new : NumberedFrames) : Type 0 where
  pub others : new ≡ record old { running = record old.running { locals = new.running.locals } }
  pub size : length new.running.locals ≡ length old.running.locals

-- nothing but the running frame's stack is another
abbrev pub IsRestacked : NumberedFrames → NumberedFrames → Type 0
IsRestacked old new = new ≡ record old { running = record old.running { stack = new.running.stack } }

-- locals after an entry, where those that it chops are gone already
abbrev pub locals_behind : List Entry → MapEntry → List VerificationType → List VerificationType
locals_behind pool (append delta infos) ts = ts ++ types_given pool infos
locals_behind pool (full delta infos stack) ts = types_given pool infos
locals_behind pool _ ts = ts

-- the locals that an entry chops are gone
abbrev pub chopped : MapEntry → List VerificationType → List VerificationType
chopped (chop count delta) ts = take (length ts - count) ts
chopped _ ts = ts

-- ---- one entry after the others

-- the first offset after the entry in front of one, if there is one
abbrev pub front_of : ℕ → Option ℕ
front_of zero = None
front_of (suc n) = Some n

module _ (pool : List Entry) (code : List (ℕ × Act)) (max_locals max_stack : ℕ) where
  -- the least reason against an entry at an offset, after locals of these types
  abbrev pub against : ℕ → List VerificationType → MapEntry → Option Reason
  against at ts e =
      least (entry_conditions pool code max_locals max_stack at e ts (locals_of pool ts e) (stack_of pool e))

  -- the frame of an entry at an offset is declared after the others, and the running frame is this one
  pub record IsDeclared (old new : NumberedFrames) (at : ℕ) (e : MapEntry) (before after : List ℕ) : Type 0 where
    pub free : against at (types_by old.types before) e ≡ None
    pub locals : types_by old.types after ≡ locals_of pool (types_by old.types before) e
    pub frame : frame_by old.types new.running ≡ frame_with pool code max_locals max_stack (types_by old.types after)
        (stack_of pool e)
    pub others : new ≡ record old { running = new.running; declared = old.declared ++ (at, new.running) ∷ [] }
    pub laid : IsLaidOut new after

  abbrev pub Declares : NumberedFrames → NumberedFrames → ℕ → MapEntry → List ℕ → List ℕ → Option FrameFault → Type 0
  Declares old new at e before after None = IsDeclared old new at e before after
  Declares old new at e before after (Some fault) =
      against at (types_by old.types before) e ≡ Some (reason (frame_fault_number fault))

-- ---- all entries

-- frames in front of those that others declare
abbrev pub behind : List (ℕ × FrameFact) → Result (List (ℕ × FrameFact)) Reason → Result (List (ℕ × FrameFact)) Reason
behind frames (Ok others) = Ok (frames ++ others)
behind frames (Err r) = Err r
