-- Declared frames that stand for others, since they have the same locals.
use Rattle.std.specs.Prelude.{◌≡◌, ◌⊎◌, ℕ, ◌<◌, List, length, slice_get, slice_index, Some}
use Rattle.hierarchy.specs.Answer.{yes}
use Rattle.frames.specs.Assignable.{type_answer}
use Rattle.type_numbers.specs.Numbers.{Numbering}
use Rattle.type_numbers.specs.Decoding.{type_by}
use Rattle.method_frames.specs.NumberedFrames.{NumberedFrame, NumberedFrames}
use Rattle.verify.specs.private.pass.Finding.{frame_in}

abbrev pub local_in : List (ℕ × NumberedFrame) → ℕ → ℕ → ℕ
local_in ds frame place = slice_index (frame_in ds frame).locals place

-- a declared frame has the locals of another
pub record IsLead (ds : List (ℕ × NumberedFrame)) (lead frame : ℕ) : Type 0 where
  pub within : lead < length ds
  pub equal : (place : ℕ) → place < length (frame_in ds frame).locals → local_in ds lead place ≡ local_in ds frame place

-- each declared frame has one
pub record AreLeads (ds : List (ℕ × NumberedFrame)) (leads : List ℕ) : Type 0 where
  pub all : length leads ≡ length ds
  pub each : (frame : ℕ) → frame < length leads → IsLead ds (slice_index leads frame) frame

-- ---- which types they take

-- a type may stand for a local variable of a declared frame
abbrev pub TakesLocal : Numbering → List (ℕ × NumberedFrame) → ℕ → ℕ → ℕ → Type 0
TakesLocal s ds frame place number =
    type_answer s.classes (type_by s number) (type_by s (local_in ds frame place)) ≡ yes

-- each of the first so many local variables is what was kept, or may stand for that of a declared frame
abbrev pub TakesChanges : NumberedFrames → ℕ → ℕ → Type 0
TakesChanges x frame n = (place : ℕ) → place < n
    → (slice_index x.running.locals place ≡ slice_index x.kept place)
    ⊎ TakesLocal x.types x.declared frame place (slice_index x.running.locals place)
