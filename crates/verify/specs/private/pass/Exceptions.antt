-- Exception tables (JVMS 4.7.3) by the numbers of the types that are caught, and the answer about one before the code
-- is judged (4.10.1.6).
use Rattle.std.specs.Prelude.{◌≡◌, ◌⊎◌, ◌&&◌, ℕ, pos, false, true, Bool, nat_lt, List, [], ◌∷◌, Option, Some, None, Result, MatchOption, MatchResult}
use Rattle.classfile.specs.Methods.{Method, ExceptionEntry}
use Rattle.hierarchy.specs.Class.{ClassFact}
use Rattle.insn.specs.Meanings.{Act}
use Rattle.insn.specs.Offsets.{has_offset}
use Rattle.frames.specs.Conditions.{Conditions, least}
use Rattle.frames.specs.Slots.{to_reference}
use Rattle.type_numbers.specs.Numbers.{Numbering, IsNumber}
use Rattle.method_frames.specs.NumberedFrames.{NumberedFrames}
use Rattle.method_frames.specs.MapFrames.{frames_by}
use Rattle.rules.specs.declared.reason.Reason.{Reason}
use Rattle.rules.specs.declared.reason.Reason.TheVariants.{OutOfMemory}
use Rattle.rules.specs.Reasons.{reason_view}
use Rattle.verify.specs.TypeSafety.{Frames}
use Rattle.verify.specs.Verdict.{Verdict, refused, is_end, table_conditions, table_judged}
use Rattle.verify.specs.declared.pass.exceptions.Entry.{Entry}
use Rattle.verify.specs.private.pass.Finding.{IsFound}

-- ---- the entries

-- an entry, with the number of the type that it catches
pub record IsEntryBy (s : Numbering) (e : ExceptionEntry) (x : Entry) : Type 0 where
  pub from : x.from ≡ e.from
  pub to : x.to ≡ e.to
  pub handler : x.handler ≡ e.handler
  pub caught : IsNumber s x.caught (to_reference e.caught)

-- the entries of a table, each in its place
abbrev pub AreEntriesBy : Numbering → List ExceptionEntry → List Entry → Type 0
AreEntriesBy s [] [] = Unit {0}
AreEntriesBy s (e ∷ es) (x ∷ xs) = IsEntryBy s e x × AreEntriesBy s es xs
AreEntriesBy s _ _ = ⊥

-- they are there exactly where the entries of the table are
abbrev pub HasEntries : Numbering → Option (List ExceptionEntry) → Option (List Entry) → Type 0
HasEntries s None None = Unit {0}
HasEntries s (Some es) (Some xs) = AreEntriesBy s es xs
HasEntries s _ _ = ⊥

-- ---- what is asked of an entry

-- the range is not empty and lies between starts, and the handler is one
abbrev pub is_placed : Method Act → ExceptionEntry → Bool
is_placed m e = ((nat_lt e.from e.to && has_offset m.code e.from) && is_end m e.to) && has_offset m.code e.handler

-- and a frame is declared at the handler
abbrev pub has_places : Method Act → Frames → ExceptionEntry → Bool
has_places m frames e = is_placed m e && has_offset frames e.handler

-- range and handler stand where they may, and the frame of this place is declared at the handler; or they do not
abbrev pub IsPlaced : NumberedFrames → Method Act → ExceptionEntry → Option ℕ → Type 0
IsPlaced x m e r = MatchOption r (has_places m (frames_by x.types x.declared) e ≡ false)
    (λ frame. (has_places m (frames_by x.types x.declared) e ≡ true) × IsFound x.types x.declared (pos e.handler) frame)

abbrev pub entry_conditions : NumberedFrames → Method Act → ExceptionEntry → Conditions
entry_conditions x m e = table_conditions x.types.classes m (frames_by x.types x.declared) e

-- the entry is not refused, and so it is with what is made of it; or this is the reason, or memory ran out
pub record JudgesEntry {A : Type 0} (x : NumberedFrames) (m : Method Act) (e : ExceptionEntry) (made : A → Type 0)
    (r : Result A Reason) : Type 0 where
  pub outcome : MatchResult r (λ a. (least (entry_conditions x m e) ≡ None) × made a)
      (λ why. (why ≡ OutOfMemory) ⊎ (least (entry_conditions x m e) ≡ Some (reason_view why)))

-- ---- the table

-- no entry of the table is refused; or this is the reason against the first that is, or memory ran out
pub record JudgesTable {A : Type 0} (classes : List ClassFact) (m : Method Act) (frames : Frames)
    (es : List ExceptionEntry) (r : Result A Reason) : Type 0 where
  pub outcome : MatchResult r
      (λ _. (rest : Verdict) → table_judged classes m frames es rest ≡ rest)
      (λ why. (why ≡ OutOfMemory)
      ⊎ ((rest : Verdict) → table_judged classes m frames es rest ≡ refused 0 (reason_view why)))
