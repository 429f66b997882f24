-- The frames that a stack map declares, as frames of a method whose types are numbers (JVMS 4.7.4).
use Rattle.std.specs.Prelude.{◌≡◌, ◌≤◌, ℕ, List, length, map, Option, Some, None, Result, Ok, Err}
use Rattle.frames.specs.FrameFact.{FrameFact}
use Rattle.frames.specs.Slots.{in_locals, all_locals}
use Rattle.frames.specs.Conditions.{Reason, reason}
use Rattle.frames.specs.FrameReasons.{frame_fault_number}
use Rattle.frames.specs.RefusedEntries.{RefusedFact, refused_of}
use Rattle.frames.specs.declared.declaring.RefusedEntry.{RefusedEntry}
use Rattle.type_numbers.specs.Numbers.{Numbering}
use Rattle.type_numbers.specs.Decoding.{types_by}
use Rattle.method_frames.specs.NumberedFrames.{NumberedFrame, NumberedFrames, frame_by}

-- the running frame has these locals, a long or double being one of them, and no others
pub record IsLaidOut (x : NumberedFrames) (locals : List ℕ) : Type 0 where
  pub same : types_by x.types x.running.locals ≡ all_locals (length x.running.locals) (types_by x.types locals)
  pub fits : length (in_locals (types_by x.types locals)) ≤ length x.running.locals

-- nothing but the running frame and the declared frames is another, and the running frame has as many locals
pub record AreMore (old new : NumberedFrames) : Type 0 where
  pub others : new ≡ record old { running = new.running; declared = new.declared }
  pub size : length new.running.locals ≡ length old.running.locals

-- frames with their types, each with its offset
abbrev pub frames_by : Numbering → List (ℕ × NumberedFrame) → List (ℕ × FrameFact)
frames_by s frames = map (λ x. (x.0, frame_by s x.1)) frames

-- the frames are declared, or the reason against the first entry that is refused is reported
abbrev pub AreDeclared : {A : Type 0} → Result (List (ℕ × FrameFact)) Reason → List (ℕ × FrameFact)
    → Result A RefusedEntry → Type 0
AreDeclared answer frames (Ok u) = answer ≡ Ok frames
AreDeclared answer frames (Err refused) = answer ≡ Err (reason (frame_fault_number refused.fault))

-- the entry that is refused, if one is
abbrev pub refused_by : {A : Type 0} → Result A RefusedEntry → Option RefusedFact
refused_by (Ok u) = None
refused_by (Err refused) = Some (refused_of refused)
