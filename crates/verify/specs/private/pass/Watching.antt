-- Which numbers declared frames want of a local variable, found once for all frames that have the same ones.
use Rattle.std.specs.Prelude.{◌≡◌, ℕ, ◌+◌, ◌*◌, ◌≤◌, ◌<◌, List, length, slice_get, Some}
use Rattle.std.specs.BTreeMap.{get}
use Rattle.std.specs.Ordering.{nat_cmp}
use Rattle.hierarchy.specs.Answer.{yes}
use Rattle.frames.specs.Assignable.{type_answer}
use Rattle.blocks.specs.Rows.{AreEqualBetween}
use Rattle.type_numbers.specs.Numbers.{Numbering, IsGiven}
use Rattle.type_numbers.specs.Decoding.{type_by}
use Rattle.method_frames.specs.NumberedFrames.{NumberedFrame}
use Rattle.verify.specs.declared.pass.watching.Group.{Group}
use Rattle.verify.specs.declared.pass.watching.Wanted.{Wanted}
use Rattle.verify.specs.declared.pass.watching.Watch.{Watch}
use Rattle.verify.specs.private.pass.Finding.{frame_in}
use Rattle.verify.specs.private.pass.Representatives.{local_in}

-- each is a declared frame
abbrev pub AreDeclared : List (ℕ × NumberedFrame) → List ℕ → Type 0
AreDeclared ds fs = (k f : ℕ) → slice_get fs k ≡ Some f → f < length ds

-- a list begins with another one
abbrev pub GoesOn : List ℕ → List ℕ → Type 0
GoesOn old new = (k n : ℕ) → slice_get old k ≡ Some n → slice_get new k ≡ Some n

-- a list has a number
abbrev pub Has : List ℕ → ℕ → Type 0
Has ns n = (k : ℕ) × (slice_get ns k ≡ Some n)

-- ---- what is wanted of one local variable

-- a type may stand for the first so many of these
abbrev pub FitUpTo : Numbering → ℕ → ℕ → List ℕ → Type 0
FitUpTo s number count wanted = (k n : ℕ) → k < count → slice_get wanted k ≡ Some n
    → type_answer s.classes (type_by s number) (type_by s n) ≡ yes

-- what is remembered of a number fits what is wanted
pub record AreFitting (s : Numbering) (w : Wanted) : Type 0 where
  pub given : (k n : ℕ) → slice_get w.numbers.items k ≡ Some n → IsGiven s n
  pub few : (number count : ℕ) → get nat_cmp w.fitting number ≡ Some count → count ≤ length w.numbers.items
  pub fit : (number count : ℕ) → get nat_cmp w.fitting number ≡ Some count → FitUpTo s number count w.numbers.items

-- the frames of a list that were gone through want the numbers
pub record IsWanted (s : Numbering) (ds : List (ℕ × NumberedFrame)) (list : List ℕ) (place : ℕ) (w : Wanted) : Type 0 where
  pub fitting : AreFitting s w
  pub few : w.seen ≤ length list
  pub each : (k f : ℕ) → k < w.seen → slice_get list k ≡ Some f → Has w.numbers.items (local_in ds f place)

-- ---- groups of local variables

-- one of the frames has the local variables of another in a group
pub record HasAlike (ds : List (ℕ × NumberedFrame)) (at : ℕ) (fs : List ℕ) (frame : ℕ) : Type 0 where
  pub place : ℕ
  pub one : ℕ
  pub here : slice_get fs place ≡ Some one
  pub equal : AreEqualBetween (frame_in ds frame).locals (frame_in ds one).locals (at * 256) (at * 256 + 256)

-- of a list, the frames that are enough for those that were gone through, and what they want
pub record IsGroup (s : Numbering) (ds : List (ℕ × NumberedFrame)) (list : List ℕ) (at : ℕ) (g : Group) : Type 0 where
  pub few : g.seen ≤ length list
  pub declared : AreDeclared ds g.frames.items
  pub each : (k f : ℕ) → k < g.seen → slice_get list k ≡ Some f → HasAlike ds at g.frames.items f
  pub locals : (place : ℕ) (w : Wanted) → get nat_cmp g.locals place ≡ Some w → IsWanted s ds g.frames.items place w

abbrev pub IsWatch : Numbering → List (ℕ × NumberedFrame) → List ℕ → Watch → Type 0
IsWatch s ds list w = (at : ℕ) (g : Group) → get nat_cmp w.groups at ≡ Some g → IsGroup s ds list at g
