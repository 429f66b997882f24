-- A declared row for which a class is missing, and what is known of it while the running row stays as it is.
use Rattle.std.specs.Prelude.{◌≡◌, ◌≢◌, ℕ, ◌+◌, ◌≤◌, ◌<◌, List, length, slice_index, Option, IfSome}
use Rattle.hierarchy.specs.Answer.{Outcome, yes, no, missing}
use Rattle.frames.specs.Assignable.{type_answer}
use Rattle.frames.specs.Meaning.{answers}
use Rattle.type_numbers.specs.Numbers.{Numbering}
use Rattle.type_numbers.specs.Decoding.{type_by, types_by}
use Rattle.blocks.specs.Rows.{Rows, declared_row}
use Rattle.method_frames.specs.private.Holders.{AreHeld}
use Rattle.method_frames.specs.declared.holders.Holders.{Holders}
use Rattle.method_frames.specs.declared.type_rows.Lacking.{Lacking}

-- the answers for two rows, place by place
abbrev pub row_answers : Numbering → List ℕ → List ℕ → List Outcome
row_answers s running wanted = answers (type_answer s.classes) (types_by s running) (types_by s wanted)

-- the answer for one place of two rows
abbrev pub answer_for : Numbering → List ℕ → List ℕ → ℕ → Outcome
answer_for s running wanted place =
    type_answer s.classes (type_by s (slice_index running place)) (type_by s (slice_index wanted place))

-- at so many first places, the running row fits the other one
abbrev pub FitsUpTo : Numbering → List ℕ → List ℕ → ℕ → Type 0
FitsUpTo s running wanted end = (k : ℕ) → k < end → answer_for s running wanted k ≡ yes

-- the last of so many first places is the first one at which the running row does not fit the other one
pub record IsUnfit (s : Numbering) (running wanted : List ℕ) (end : ℕ) : Type 0 where
  pub within : end ≤ length running
  pub place : ℕ
  pub last : place + 1 ≡ end
  pub here : answer_for s running wanted place ≢ yes
  pub before : FitsUpTo s running wanted place

-- a class is missing for two rows, and the last of so many first places tells it
pub record Lacks (s : Numbering) (running wanted : List ℕ) (end : ℕ) (name : List ℕ) : Type 0 where
  pub within : end ≤ length running
  pub place : ℕ
  pub last : place + 1 ≡ end
  pub here : answer_for s running wanted place ≡ missing name
  pub before : FitsUpTo s running wanted place
  pub free : (k : ℕ) → k < length running → answer_for s running wanted k ≢ no

-- a class is missing for a declared row
pub record IsLacking (s : Numbering) (rows : Rows) (x : Lacking) : Type 0 where
  pub row : x.row < length rows.declared
  pub lacks : Lacks s rows.running (declared_row rows x.row) x.end x.name.now

pub record AreTypeRows (s : Numbering) (rows : Rows) (x : Holders) (l : Option Lacking) : Type 0 where
  pub held : AreHeld s rows x
  pub lacking : IfSome l (IsLacking s rows)
