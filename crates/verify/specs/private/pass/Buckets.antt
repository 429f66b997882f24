-- Frames that stand for others, in buckets by how long they do.
use Rattle.std.specs.Prelude.{◌≡◌, ℕ, ◌<◌, ◌≤◌, List, length, slice_get, slice_index, Some}
use Rattle.type_numbers.specs.Numbers.{Numbering}
use Rattle.method_frames.specs.NumberedFrames.{NumberedFrame}
use Rattle.verify.specs.declared.pass.representatives.Bucket.{Bucket}
use Rattle.verify.specs.declared.pass.representatives.Representatives.{Representatives}
use Rattle.verify.specs.private.pass.Watching.{AreDeclared, IsWatch}

-- the frames of a bucket are declared, and there is a place for what is known of each of them
pub record IsBucket (s : Numbering) (ds : List (ℕ × NumberedFrame)) (room : ℕ) (b : Bucket) : Type 0 where
  pub declared : AreDeclared ds b.list.items
  pub within : (k f : ℕ) → slice_get b.list.items k ≡ Some f → f < room
  pub watch : IsWatch s ds b.list.items b.watch

abbrev pub AreBuckets : Numbering → List (ℕ × NumberedFrame) → ℕ → List Bucket → Type 0
AreBuckets s ds room bs = (i : ℕ) (b : Bucket) → slice_get bs i ≡ Some b → IsBucket s ds room b

-- a frame is in the bucket of a place
pub record IsIn (bs : List Bucket) (i frame : ℕ) : Type 0 where
  pub bucket : Bucket
  pub there : slice_get bs i ≡ Some bucket
  pub place : ℕ
  pub here : slice_get bucket.list.items place ≡ Some frame

-- a frame is in a bucket
abbrev pub IsNamed : List Bucket → ℕ → Type 0
IsNamed bs frame = (i : ℕ) × IsIn bs i frame

-- each frame that stands for others is in a bucket
pub record AreRepresentatives (s : Numbering) (ds : List (ℕ × NumberedFrame)) (rs : Representatives) : Type 0 where
  pub buckets : AreBuckets s ds (length rs.until.items) rs.buckets.items
  pub named : (frame : ℕ) → 0 < slice_index rs.until.items frame → IsNamed rs.buckets.items frame

-- a frame was put into a bucket, and nothing else is changed
pub record IsPut (old : Representatives) (frame : ℕ) (new : Representatives) : Type 0 where
  pub buckets : (s : Numbering) (ds : List (ℕ × NumberedFrame)) (room : ℕ) → frame < length ds → frame < room
      → AreBuckets s ds room old.buckets.items → AreBuckets s ds room new.buckets.items
  pub kept : (f : ℕ) → IsNamed old.buckets.items f → IsNamed new.buckets.items f
  pub named : IsNamed new.buckets.items frame
  pub until : new.until ≡ old.until
  pub moved : new.moved ≡ old.moved
  pub more : length old.buckets.items ≤ length new.buckets.items

-- those that stand for others beyond an offset still do, and no other one does
pub record IsSorted (s : Numbering) (ds : List (ℕ × NumberedFrame)) (at : ℕ) (old new : Representatives) : Type 0 where
  pub are : AreRepresentatives s ds new
  pub fewer : (f : ℕ) → 0 < slice_index new.until.items f → 0 < slice_index old.until.items f
  pub others : (f : ℕ) → at < slice_index old.until.items f
      → slice_index new.until.items f ≡ slice_index old.until.items f
