-- The frames at the instruction at which a method is refused (JVMS 4.10.1.6): the one that comes to it, by the rules of
-- those in front of it, and the one that is declared there; and what is wrong.
use Rattle.std.specs.Prelude.{◌≡◌, ◌⊎◌, ◌+◌, ℕ, zero, suc, Bool, true, false, ◌&&◌, is_none, nat_lt, nat_eq, List, [], ◌∷◌, length, slice_get, Option, Some, None, option_map, Result, Ok, Err, if◌then◌else◌}
use Rattle.classfile.specs.Values.{CodeBody}
use Rattle.classfile.specs.Methods.{JudgedClass, Method, method_of}
use Rattle.classfile.specs.MethodParts.{code_at}
use Rattle.hierarchy.specs.Class.{ClassFact}
use Rattle.insn.specs.Meanings.{Act}
use Rattle.insn.specs.Instructions.{Instruction}
use Rattle.insn.specs.Code.{SpellsCode}
use Rattle.insn.specs.Offsets.{at_offset, acts}
use Rattle.frames.specs.FrameFact.{FrameFact, frame_of}
use Rattle.frames.specs.Slots.{in_locals}
use Rattle.frames.specs.Conditions.{least}
use Rattle.rules.specs.TypingRules.{TypingRule, falls}
use Rattle.rules.specs.Table as tables
use Rattle.rules.specs.Table.{TypingRules}
use Rattle.rules.specs.After.{after}
use Rattle.rules.specs.Rules.{conditions}
use Rattle.rules.specs.Reasons.{reason_number}
use Rattle.verify.specs.InitialFrames.{initial_types, initial_frame}
use Rattle.verify.specs.TypeSafety.{Frames}
use Rattle.verify.specs.Details.{DetailFact, detail_at, map_detail, detail_of}
use Rattle.verify.specs.Verdict.{MapRefusal, frames_declared}
use Rattle.verify.specs.declared.frames_at.TheConstants.{MOST_KEPT}
use Rattle.verify.specs.declared.frames_at.FramesAt.{FramesAt}
use Rattle.verify.specs.declared.verdict.Verdict.{Verdict}
use Rattle.verify.specs.declared.verdict.Verdict.TheVariants.{Verified, NoCode, Refused}
use Rattle.verify.specs.declared.report.MethodVerdict.{MethodVerdict}

-- At an offset at which a method is refused: the frame that comes there, if any, the one that is declared, if any, and
-- what is wrong.
pub record FramesFact : Type 0 where
  pub coming : Option FrameFact
  pub declared : Option FrameFact
  pub detail : Option DetailFact

abbrev pub no_frames : FramesFact
no_frames = record { coming = None; declared = None; detail = None }

-- the frame before an instruction: the one that is declared there, and otherwise the one that comes
abbrev pub before : Option FrameFact → Option FrameFact → Option FrameFact
before coming None = coming
before coming (Some declared) = Some declared

abbrev pub met_before : FramesFact → Option FrameFact
met_before x = before x.coming x.declared

-- the frames at an instruction with this act and this typing rule, and what is wrong, by the number of the reason
abbrev pub frames_with : List ClassFact → Method Act → Frames → ℕ → Act → TypingRule → (reason : ℕ) → Option FrameFact
    → Option FrameFact → FramesFact
frames_with classes m frames at act p reason coming declared = record {
  coming = coming;
  declared = declared;
  detail = detail_at classes m frames at act p reason coming declared (before coming declared);
}

abbrev pub frame_if : Bool → FrameFact → Option FrameFact
frame_if comes f = if comes then Some f else None

-- The frame that goes on from an instruction with this frame before it: the frame after, where its rule does not refuse
-- the instruction and it falls through.
abbrev pub going : List ClassFact → Method Act → ℕ → TypingRule → Option FrameFact → Option FrameFact
going classes m at p None = None
going classes m at p (Some f) = frame_if (falls p && is_none (least (conditions classes m at p f))) (after m at p f)

-- the frames at an offset, where this one comes to the first of these instructions; none where no instruction begins
-- there
abbrev pub met : TypingRules → List ClassFact → Method Act → Frames → (reason : ℕ) → List (ℕ × Act) → Option FrameFact
    → ℕ → FramesFact
met typing_rule classes m frames reason [] coming at = no_frames
met typing_rule classes m frames reason (c ∷ cs) coming at =
    if nat_eq c.0 at then frames_with classes m frames c.0 c.1 (typing_rule m c.1) reason coming (at_offset frames c.0)
    else met typing_rule classes m frames reason cs
    (going classes m c.0 (typing_rule m c.1) (before coming (at_offset frames c.0))) at

-- where the stack map is refused there are no frames, and what is wrong is in it
abbrev pub without_map : Method Act → FramesFact
without_map m = record { coming = None; declared = None; detail = map_detail m }

abbrev pub met_under : TypingRules → List ClassFact → Method Act → Result Frames MapRefusal → (reason : ℕ) → ℕ
    → FramesFact
met_under typing_rule classes m (Ok frames) reason at =
    met typing_rule classes m frames reason m.code (Some (initial_frame m)) at
met_under typing_rule classes m (Err why) reason at = without_map m

-- the frames at an offset of a method, where it is refused for the reason of this number; none where the receiver and
-- the parameters do not fit
abbrev pub frames_at : TypingRules → List ClassFact → Method Act → (reason : ℕ) → ℕ → FramesFact
frames_at typing_rule classes m reason at =
    if nat_lt m.max_locals (length (in_locals (initial_types m))) then no_frames
    else met_under typing_rule classes m (frames_declared m) reason at

-- ---- the answer

abbrev pub frames_view : FramesAt → FramesFact
frames_view x =
    record {
      coming = option_map frame_of x.coming;
      declared = option_map frame_of x.declared;
      detail = option_map detail_of x.detail;
    }

-- the method of this number has code, its bytes are instructions, and these are its frames at an offset, where it is
-- refused for this reason
pub record HasFrames (classes : List ClassFact) (c : JudgedClass) (number reason at : ℕ) (x : FramesFact)
    : Type 0 where
  pub body : CodeBody
  pub has_code : code_at c.file number ≡ Some body
  pub instructions : List (ℕ × Instruction)
  pub spelled : SpellsCode 0 body.code instructions
  pub method : Method Act
  pub says : method_of c number (acts instructions) ≡ Some method
  pub same : x ≡ frames_at tables.typing_rule classes method reason at

-- it has no code, or the bytes of its code are no instructions
abbrev pub HasNoInstructions : JudgedClass → ℕ → Type 0
HasNoInstructions c number =
    (body : CodeBody) (instructions : List (ℕ × Instruction)) → code_at c.file number ≡ Some body
    → SpellsCode 0 body.code instructions → ⊥

abbrev pub AreFramesOf : List ClassFact → JudgedClass → ℕ → (reason at : ℕ) → FramesFact → Type 0
AreFramesOf classes c number reason at x =
    HasFrames classes c number reason at x ⊎ (HasNoInstructions c number × (x ≡ no_frames))

-- these are the frames at the instruction at which a method is refused; none where it is not refused
abbrev pub IsFramed : List ClassFact → JudgedClass → ℕ → Verdict → FramesFact → Type 0
IsFramed classes c number Verified x = x ≡ no_frames
IsFramed classes c number NoCode x = x ≡ no_frames
IsFramed classes c number (Refused at why) x = AreFramesOf classes c number (reason_number why) at x

-- ---- how many frames are kept

-- the number of a frame's locals and of the items of its stack
abbrev pub frame_size : Option FrameFact → ℕ
frame_size None = 0
frame_size (Some f) = length f.locals + length f.stack

abbrev pub frames_size : FramesFact → ℕ
frames_size x = frame_size x.coming + frame_size x.declared

-- the number of these in the frames of the first so many methods
abbrev pub size_before : List FramesAt → ℕ → ℕ
size_before xs zero = 0
size_before [] (suc n) = 0
size_before (x ∷ xs) (suc n) = frames_size (frames_view x) + size_before xs n

-- these are the frames at the instruction at which a method is refused, if its frames are kept; otherwise there are
-- none
abbrev pub IsFramedIf : Bool → List ClassFact → JudgedClass → ℕ → Verdict → FramesFact → Type 0
IsFramedIf true classes c number v x = IsFramed classes c number v x
IsFramedIf false classes c number v x = x ≡ no_frames

-- These are the frames of each method of a class, with these verdicts. The frames of a method are kept where those of
-- the methods before it have fewer types than MOST_KEPT.
pub record AreFramed (classes : List ClassFact) (c : JudgedClass) (rs : List MethodVerdict)
    (xs : List FramesAt) : Type 0 where
  pub all : length xs ≡ length rs
  pub each : (number : ℕ) (r : MethodVerdict) (x : FramesAt) → slice_get rs number ≡ Some r
      → slice_get xs number ≡ Some x
      → IsFramedIf (nat_lt (size_before xs number) MOST_KEPT) classes c number r.verdict (frames_view x)
