-- Marks at the offsets of code: where instructions begin, and which of them are a `new`.
use Rattle.std.specs.Prelude.{◌≡◌, ℕ, Bool, true, false, List, Option, Some, None, is_some, get_or}
use Rattle.insn.specs.Meanings.{Act, made_index}
use Rattle.insn.specs.Offsets.{at_offset}
use Rattle.frames.specs.DeclaredFrames.{is_new}
use Rattle.frames.specs.declared.code_starts.StartKind.{StartKind}
use Rattle.frames.specs.declared.code_starts.StartKind.TheVariants.{Inside, Start, New}

abbrev pub is_start_mark : StartKind → Bool
is_start_mark Inside = false
is_start_mark Start = true
is_start_mark (New index) = true

abbrev pub is_new_mark : StartKind → Bool
is_new_mark Inside = false
is_new_mark Start = false
is_new_mark (New index) = true

abbrev pub index_of_mark : StartKind → Option ℕ
index_of_mark Inside = None
index_of_mark Start = None
index_of_mark (New index) = Some index

-- the class of which a `new` makes an object, by its index, where an instruction is one
abbrev pub new_index : Option Act → Option ℕ
new_index (Some what) = made_index what
new_index None = None

-- the mark of what stands at an offset
pub record IsMark (m : StartKind) (what : Option Act) : Type 0 where
  pub start : is_start_mark m ≡ is_some what
  pub new : is_new_mark m ≡ is_new what
  pub index : index_of_mark m ≡ new_index what

-- after the last mark no instruction begins
abbrev pub AreMarks : List StartKind → List (ℕ × Act) → Type 0
AreMarks marks code = (at : ℕ) → IsMark (get_or marks at Inside) (at_offset code at)

-- no instruction is marked
abbrev pub AreClear : List StartKind → Type 0
AreClear marks = (at : ℕ) → get_or marks at Inside ≡ Inside
