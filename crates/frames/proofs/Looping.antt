-- The frames of a map entry by entry: what a loop over the entries keeps.
use Rattle.std.proofs.Common.{◌≡◌, ◌∙◌, ℕ, zero, suc, ◌+◌, List, [], ◌∷◌, ◌++◌, Vec, Global, Option, Some, None, Result, Ok, Err, refl, sym, ap, subst, arith, append_assoc}
use Rattle.std.specs.Prelude.{IsErrAnd}
use Rattle.std.proofs.lemmas.List.{map-append}
use Rattle.pool.specs.Entries.{Entry}
use Rattle.insn.specs.Meanings.{Act}
use Rattle.frames.specs.VerificationType.{VerificationType}
use Rattle.frames.specs.FrameFact.{FrameFact, frame_of}
use Rattle.frames.specs.Conditions.{Reason, reason}
use Rattle.frames.specs.FrameReasons.{frame_fault_number}
use Rattle.frames.specs.StackMaps.{MapEntry}
use Rattle.frames.specs.DeclaredFrames.{locals_of, stack_of, delta_of, offset_of, frame_with, frame_before, declared_from}
use Rattle.frames.specs.DeclaredTables.{whole_frames, AreTold}
use Rattle.frames.specs.private.Judging.{front_of, against, IsToldBy, IsDeclared}
use Rattle.frames.specs.declared.frame.Frame.{Frame}
use Rattle.frames.specs.declared.frame_fault.FrameFault.{FrameFault}
use Rattle.frames.specs.declared.frame_fault.FrameFault.TheVariants.{OutOfMemory, BadIndex, WrongKind, LocalsOver, StackOver, ChopTooMany, NotAStart, NotANew}

abbrev pub Answer : Type 0
Answer = Result (List (ℕ × FrameFact)) Reason

-- ---- offsets

offset_behind : (behind d : ℕ) (e : MapEntry) → d ≡ delta_of e → behind + d ≡ offset_of (front_of behind) e
offset_behind zero d e is = omega (arith, is)
offset_behind (suc n) d e is = omega (arith, is)

front_behind : (at : ℕ) → front_of (at + 1) ≡ Some at
front_behind at = let e : at + 1 ≡ suc at = omega arith in ap front_of e

-- ---- faults

pub told_by : (r : Option Reason) (fault : FrameFault) → r ≡ Some (reason (frame_fault_number fault)) → IsToldBy r fault
told_by r OutOfMemory e = tt
told_by r BadIndex e = e
told_by r WrongKind e = e
told_by r LocalsOver e = e
told_by r StackOver e = e
told_by r ChopTooMany e = e
told_by r NotAStart e = e
told_by r NotANew e = e

-- an answer that is refused for a reason
refused_told : (answer : Answer) (r : Option Reason) (fault : FrameFault) → ((s : Reason) → r ≡ Some s → answer ≡ Err s) → IsToldBy r fault → AreTold answer (Err fault)
refused_told answer r OutOfMemory k h = tt
refused_told answer r BadIndex k h = k (reason (frame_fault_number BadIndex)) h
refused_told answer r WrongKind k h = k (reason (frame_fault_number WrongKind)) h
refused_told answer r LocalsOver k h = k (reason (frame_fault_number LocalsOver)) h
refused_told answer r StackOver k h = k (reason (frame_fault_number StackOver)) h
refused_told answer r ChopTooMany k h = k (reason (frame_fault_number ChopTooMany)) h
refused_told answer r NotAStart k h = k (reason (frame_fault_number NotAStart)) h
refused_told answer r NotANew k h = k (reason (frame_fault_number NotANew)) h

-- a fault is passed on
pub passed_on : (answer : Answer) (fault : FrameFault) (r : Result (Vec (ℕ × Frame) Global) FrameFault) → IsErrAnd r (λ e. e ≡ fault) → AreTold answer (Err fault) → AreTold answer r
passed_on answer fault (Ok frames) e h = absurd e
passed_on answer fault (Err f) e h = subst (λ g. AreTold answer (Err g)) (sym e) h

-- ---- frames in front of those that come

-- frames that were made before those that come
abbrev pub behind_frames : List (ℕ × FrameFact) → Answer → Answer
behind_frames done (Ok more) = Ok (done ++ more)
behind_frames done (Err r) = Err r

frames_more : (fs : List (ℕ × Frame)) (at : ℕ) (f : Frame) → whole_frames (fs ++ (at, f) ∷ []) ≡ whole_frames fs ++ (at, frame_of f) ∷ []
frames_more fs at f = map-append (λ (x : ℕ × Frame). (x.0, frame_of x.1)) fs ((at, f) ∷ [])

module _ (pool : List Entry) (code : List (ℕ × Act)) (max_locals max_stack : ℕ) where
  behind_one : (done : List (ℕ × FrameFact)) (at : ℕ) (g : FrameFact) (r : Answer) → behind_frames done (frame_before pool code max_locals max_stack None at g r) ≡ behind_frames (done ++ (at, g) ∷ []) r
  behind_one done at g (Ok more) = ap (λ (l : List (ℕ × FrameFact)). Ok l) (sym (append_assoc done ((at, g) ∷ []) more))
  behind_one done at g (Err r) = refl

  -- the frames that are made, with those of the entries that are left, are all frames
  abbrev pub AreBegun : List (ℕ × Frame) → ℕ → List VerificationType → List MapEntry → Answer → Type 0
  AreBegun frames behind ts left answer = behind_frames (whole_frames frames) (declared_from pool code max_locals max_stack (front_of behind) ts left) ≡ answer

  module _ (frames : List (ℕ × Frame)) (behind d at : ℕ) (ts : List VerificationType) (e : MapEntry) (es : List MapEntry) (answer : Answer)
      (h : AreBegun frames behind ts (e ∷ es) answer) (is : d ≡ delta_of e) (here : at ≡ behind + d) where
    offset : at ≡ offset_of (front_of behind) e
    offset = here ∙ offset_behind behind d e is

    abbrev fact : FrameFact
    fact = frame_with pool code max_locals max_stack (locals_of pool ts e) (stack_of pool e)

    abbrev others : ℕ → Answer
    others k = declared_from pool code max_locals max_stack (Some k) (locals_of pool ts e) es

    -- the first entry that is left, by its offset
    begins : behind_frames (whole_frames frames) (frame_before pool code max_locals max_stack (against pool code max_locals max_stack at ts e) at fact (others at)) ≡ answer
    begins = ap (λ k. behind_frames (whole_frames frames) (frame_before pool code max_locals max_stack (against pool code max_locals max_stack k ts e) k fact (others k))) offset ∙ h

    pub refused_begun : (fault : FrameFault) → IsToldBy (against pool code max_locals max_stack at ts e) fault → AreTold answer (Err fault)
    refused_begun fault told = refused_told answer (against pool code max_locals max_stack at ts e) fault (λ r free. sym begins ∙ ap (λ o. behind_frames (whole_frames frames) (frame_before pool code max_locals max_stack o at fact (others at))) free) told

    pub more_begun : (f : Frame) (new : List (ℕ × Frame)) (us : List VerificationType) → IsDeclared pool code max_locals max_stack at ts e f → new ≡ frames ++ (at, f) ∷ [] → us ≡ locals_of pool ts e
        → AreBegun new (at + 1) us es answer
    more_begun f new us one pushed left =
        ap (λ o. behind_frames (whole_frames new) (declared_from pool code max_locals max_stack o us es)) (front_behind at)
        ∙ ap (λ ts. behind_frames (whole_frames new) (declared_from pool code max_locals max_stack (Some at) ts es)) left
        ∙ ap (λ fs. behind_frames fs (others at)) (ap whole_frames pushed ∙ frames_more frames at f ∙ ap (λ g. whole_frames frames ++ (at, g) ∷ []) one.frame)
        ∙ sym (behind_one (whole_frames frames) at fact (others at))
        ∙ sym (ap (λ o. behind_frames (whole_frames frames) (frame_before pool code max_locals max_stack o at fact (others at))) one.free)
        ∙ begins
