-- The entries of an exception table while a pass goes over the code, their handlers by the places of their frames.
use Rattle.std.specs.Prelude.{◌≡◌, ◌⊎◌, ℕ, ◌≤◌, ◌<◌, Bool, false, nat_le, nat_lt, ◌&&◌, pos, if◌then◌else◌, List, [], ◌∷◌, length, slice_get, slice_index, Option, Some, None, IsSomeAnd}
use Rattle.std.specs.BTreeMap.{get}
use Rattle.std.specs.Ordering.{nat_cmp}
use Rattle.std.specs.List.Sorted.{IsNonDecreasingBy, IsPermutation}
use Rattle.classfile.specs.Methods.{ExceptionEntry, covers}
use Rattle.hierarchy.specs.Class.{ClassFact}
use Rattle.hierarchy.specs.Answer.{Outcome, yes}
use Rattle.insn.specs.Offsets.{at_offset}
use Rattle.frames.specs.FrameFact.{FrameFact}
use Rattle.frames.specs.Slots.{to_reference}
use Rattle.frames.specs.FrameAssignable.{frame_answer, item_answer, stack_answer}
use Rattle.frames.specs.Conditions.{Conditions, is_no}
use Rattle.blocks.specs.Rows.{IsFirstUnequal}
use Rattle.type_numbers.specs.Numbers.{Numbering, IsNumber}
use Rattle.type_numbers.specs.Decoding.{types_by}
use Rattle.method_frames.specs.NumberedFrames.{NumberedFrame, NumberedFrames, frame_by, declared_frame}
use Rattle.method_frames.specs.MapFrames.{frames_by}
use Rattle.numbered_rules.specs.RunningFrame.{held}
use Rattle.verify.specs.TypeSafety.{Frames, caught_frame}
use Rattle.verify.specs.Verdict.{one_handler}
use Rattle.verify.specs.private.Catching.{caught_answer}
use Rattle.verify.specs.declared.pass.handlers.Handler.{Handler}
use Rattle.verify.specs.declared.pass.handlers.Handlers.{Handlers}
use Rattle.verify.specs.private.pass.Finding.{IsFound}
use Rattle.verify.specs.private.pass.Buckets.{AreRepresentatives}
use Rattle.verify.specs.private.pass.Representatives.{IsLead, TakesLocal}

-- ---- the table

-- an entry, with the place of its handler's frame, the number of the type that it catches, and a frame with its locals
pub record IsHandler (s : Numbering) (ds : List (ℕ × NumberedFrame)) (e : ExceptionEntry) (h : Handler) : Type 0 where
  pub from : h.from ≡ e.from
  pub to : h.to ≡ e.to
  pub frame : IsFound s ds (pos e.handler) h.frame
  pub caught : IsNumber s h.caught (to_reference e.caught)
  pub lead : IsLead ds h.lead h.frame

-- the entries of a table, each in its place
abbrev pub AreHandlers : Numbering → List (ℕ × NumberedFrame) → List ExceptionEntry → List Handler → Type 0
AreHandlers s ds [] [] = Unit {0}
AreHandlers s ds (e ∷ es) (h ∷ hs) = IsHandler s ds e h × AreHandlers s ds es hs
AreHandlers s ds _ _ = ⊥

-- the conditions of one entry
abbrev pub one_handler_at : List ClassFact → Frames → ℕ → FrameFact → ExceptionEntry → Conditions
one_handler_at classes frames at f e =
    if covers e at then one_handler classes (at_offset frames e.handler) (caught_frame e f) else []

-- ---- which frames their handlers take

-- a frame that comes to an entry's handler may stand there
abbrev pub IsTaken : Numbering → List (ℕ × NumberedFrame) → FrameFact → ExceptionEntry → Type 0
IsTaken s ds f e = caught_answer s.classes (frames_by s ds) f e ≡ yes

-- an entry covers an offset
abbrev pub is_covering : Handler → ℕ → Bool
is_covering h at = nat_le h.from at && nat_lt at h.to

-- the answer for the running frame with what an entry catches alone on its stack
abbrev pub handler_answer : NumberedFrames → Handler → Outcome
handler_answer x h =
    frame_answer x.types.classes (frame_by x.types (record x.running { stack = h.caught ∷ [] }))
    (frame_by x.types (declared_frame x h.frame))

-- an entry covers an offset, and the running frame may not stand at its handler, whatever classes there are
abbrev pub refuses : NumberedFrames → ℕ → Handler → Bool
refuses x at h = is_covering h at && is_no (handler_answer x h)

abbrev pub IsOfEntry : NumberedFrames → Handler → Type 0
IsOfEntry x h = (e : ExceptionEntry) × IsHandler x.types x.declared e h

-- one entry, if there is one, has the frame of another, and catches the same type
abbrev pub IsLike : Handler → Option Handler → Type 0
IsLike h last = IsSomeAnd last (λ one. (h.frame ≡ one.frame) × (h.caught ≡ one.caught))

-- one covers nothing, or is like the one that was asked last
abbrev pub IsPassed : ℕ → Option Handler → Handler → Type 0
IsPassed at last h = (is_covering h at ≡ false) ⊎ IsLike h last

-- the locals that were kept, in a frame with nothing on its stack
abbrev pub kept_frame : NumberedFrames → Bool → FrameFact
kept_frame x flag = record { locals = types_by x.types x.kept; stack = []; flag = flag }

-- a frame comes to the handler of an entry
abbrev pub Comes : NumberedFrames → FrameFact → Handler → Type 0
Comes x f h = (e : ExceptionEntry) → IsHandler x.types x.declared e h → IsTaken x.types x.declared f e

-- the frame that was kept does, and a frame stands for that of the handler as long as the entry covers instructions
pub record IsSettled (x : NumberedFrames) (flag : Bool) (until : List ℕ) (h : Handler) : Type 0 where
  pub stands : h.to ≤ slice_index until h.lead
  pub comes : Comes x (kept_frame x flag) h

-- ---- what is known of frames that stand for others

-- a declared frame takes each of these locals
abbrev pub TakesAll : NumberedFrames → List ℕ → ℕ → Type 0
TakesAll x locals frame = (place : ℕ) → place < length locals
    → TakesLocal x.types x.declared frame place (slice_index locals place)

-- each that stands for others does
abbrev pub AreStanding : NumberedFrames → List ℕ → Handlers → Type 0
AreStanding x locals h = (frame : ℕ) → 0 < slice_index h.representatives.until.items frame → TakesAll x locals frame

-- the frame at an entry's handler has as many locals as the running one, and takes what is caught alone on its stack
pub record Catches (x : NumberedFrames) (h : Handler) : Type 0 where
  pub even : length (declared_frame x h.frame).locals ≡ length x.running.locals
  pub stack : stack_answer (item_answer x.types.classes) (types_by x.types (h.caught ∷ []))
      (types_by x.types (declared_frame x h.frame).stack) ≡ yes

-- each entry that is remembered is so
abbrev pub AreCaught : NumberedFrames → Handlers → Type 0
AreCaught x h = (key : ℕ) (one : Handler) → get nat_cmp h.caught key ≡ Some one → Catches x one

-- one is remembered that has the frame of another, and catches the same type
pub record IsCaught (h : Handlers) (one : Handler) : Type 0 where
  pub key : ℕ
  pub known : Handler
  pub there : get nat_cmp h.caught key ≡ Some known
  pub frame : known.frame ≡ one.frame
  pub caught : known.caught ≡ one.caught

-- the frame that was kept comes to an entry's handler, by what is known
pub record IsKnown (h : Handlers) (one : Handler) : Type 0 where
  pub flag : h.flag ≡ false
  pub stands : 0 < slice_index h.representatives.until.items one.lead
  pub caught : IsCaught h one

-- ---- while the pass goes on

-- the frame has the locals that were kept, and this flag
pub record IsUnchanged (x : NumberedFrames) (flag : Bool) : Type 0 where
  pub own : x.running.flag ≡ flag
  pub locals : IsFirstUnequal x.running.locals x.kept 0 None
  pub even : length x.kept ≡ length x.running.locals

-- an entry of this place among those in the order of their starts, whose range has not ended
pub record IsOpen (at n : ℕ) (h : Handlers) (place : ℕ) (one : Handler) : Type 0 where
  pub early : place < n
  pub here : slice_get h.by_start.items place ≡ Some one
  pub lasts : at < one.to

-- the running frame comes to the handlers of the entries that were compared and have not ended
abbrev pub AreBegunTaken : NumberedFrames → ℕ → Handlers → Type 0
AreBegunTaken x at h = (place : ℕ) (one : Handler) → IsOpen at h.settled h place one → Comes x (held x) one

-- and each frame that stands for others takes its locals
pub record AreAllTaken (x : NumberedFrames) (at : ℕ) (h : Handlers) : Type 0 where
  pub begun : AreBegunTaken x at h
  pub standing : AreStanding x x.running.locals h

-- those whose ranges have begun begin no later than an offset and end no later than another, and one ends there
pub record HasReached (at : ℕ) (h : Handlers) : Type 0 where
  pub started : (place : ℕ) (one : Handler) → place < h.begun → slice_get h.by_start.items place ≡ Some one
      → (one.from ≤ at) × (one.to ≤ h.reach)
  pub last : (h.reach ≡ 0) ⊎ ((place : ℕ) × (one : Handler) × (place < h.begun)
      × (slice_get h.by_start.items place ≡ Some one) × (one.to ≡ h.reach))

-- the entries that are to come begin at the offset or after it
abbrev pub AreFrom : ℕ → Handlers → Type 0
AreFrom at h = (place : ℕ) (one : Handler) → h.begun ≤ place → slice_get h.by_start.items place ≡ Some one
    → at ≤ one.from

-- the tables are those of these entries, and what is said of the frame that was kept is so
pub record Follows (x : NumberedFrames) (es : List ExceptionEntry) (at : ℕ) (h : Handlers) : Type 0 where
  pub entries : AreHandlers x.types x.declared es h.table.items
  pub moved : IsPermutation h.table.items h.by_start.items
  pub rises : IsNonDecreasingBy (λ (one : Handler). one.from) h.by_start.items
  pub few : h.settled ≤ h.begun
  pub within : h.begun ≤ length h.by_start.items
  pub reached : HasReached at h
  pub later : AreFrom h.next_start h
  pub settled : (place : ℕ) (one : Handler) → IsOpen at h.settled h place one
      → IsSettled x h.flag h.representatives.until.items one
  pub representatives : AreRepresentatives x.types x.declared h.representatives
  pub standing : AreStanding x x.kept h
  pub caught : AreCaught x h

-- the entries that are to come begin after the offset
abbrev pub AreAhead : ℕ → Handlers → Type 0
AreAhead at h = (place : ℕ) (one : Handler) → h.begun ≤ place → slice_get h.by_start.items place ≡ Some one
    → at < one.from

-- the running frame is another, with as many local variables, and so is what was kept; nothing else is
pub record IsOnward (old new : NumberedFrames) : Type 0 where
  pub others : new ≡ record old { running = new.running; kept = new.kept }
  pub size : length new.running.locals ≡ length old.running.locals
